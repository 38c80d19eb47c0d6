-- Any two outcomes that the public contract allows are equal.
use Prim.Native.Nat.{ℕ}
use mathlib.Core.Path.{sym, ◌∙◌}
use mathlib.Core.List.{List}
use Rattle.settled.specs.Settled.{SettledAs}
use Rattle.answers.specs.declared.Answer.{Answer}
use Rattle.matcher.proofs.find.Kinds as find_kinds
use Rattle.matcher.proofs.find.Reads as find

-- the answer, and the buffer afterwards
pub find_settled : SettledAs 3 find_kinds.ps find_kinds.r (λ κs. Answer × List ℕ) (λ κs x s. (x, s.1.1.0.now)) find.Post
find_settled κs a r₁ r₂ s₁ s₂ p q i = ((p.returned ∙ sym q.returned) i, (p.buffer ∙ sym q.buffer) i)
