-- Any two outcomes that a public contract allows are equal.
use mathlib.Core.Path.{sym, ◌∙◌}
use Rattle.settled.specs.Settled.{Settled, SettledAs}
use Prim.Native.Nat.{ℕ}
use mathlib.Core.List.{List}
use Rattle.probe.proofs.probe_read.Kinds as probe_read_kinds
use Rattle.probe.proofs.probe_read.Reads as probe_read
use Rattle.probe.proofs.probe_fault.Kinds as probe_fault_kinds
use Rattle.probe.proofs.probe_fault.Reads as probe_fault
use Rattle.probe.proofs.probe_dead.Kinds as probe_dead_kinds
use Rattle.probe.proofs.probe_dead.Reads as probe_dead

-- the number, and the lent slice afterwards
pub probe_read_settled : SettledAs 2 probe_read_kinds.ps probe_read_kinds.r (λ κs. ℕ × List ℕ) (λ κs x s. (x, s.1.0.now)) probe_read.Post
probe_read_settled κs a r₁ r₂ s₁ s₂ p q i = ((p.returned ∙ sym q.returned) i, (p.slice ∙ sym q.slice) i)

pub probe_fault_settled : SettledAs 2 probe_fault_kinds.ps probe_fault_kinds.r (λ κs. ℕ × List ℕ) (λ κs x s. (x, s.1.1.0.now)) probe_fault.Post
probe_fault_settled κs a r₁ r₂ s₁ s₂ p q i = ((p.returned ∙ sym q.returned) i, (p.slice ∙ sym q.slice) i)

pub probe_dead_settled : Settled 3 probe_dead_kinds.ps probe_dead_kinds.r probe_dead.Post
probe_dead_settled κs a r₁ r₂ s₁ s₂ p q = p ∙ sym q
