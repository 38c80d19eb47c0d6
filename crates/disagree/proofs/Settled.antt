-- Any two outcomes that a public contract allows are equal.
use mathlib.Core.Path.{sym, ◌∙◌}
use Rattle.settled.specs.Settled.{Settled}
use Rattle.disagree.proofs.disagreement.Kinds as disagreement_kinds
use Rattle.disagree.proofs.disagreement.Reads as disagreement

pub disagreement_settled : Settled 1 disagreement_kinds.ps disagreement_kinds.r disagreement.Post
disagreement_settled κs a r₁ r₂ s₁ s₂ p q = p ∙ sym q
