-- Any two outcomes that a public contract allows are equal.
use mathlib.Core.Path.{sym, ◌∙◌}
use Rattle.settled.specs.Settled.{Settled, SettledAs}
use mathlib.Core.List.{List}
use Prim.Native.Nat.{ℕ}
use mir.Val.{Fits}
use mir.Syntax.{w64}
use Rattle.std.proofs.lemmas.List.{ext_get_or}
use Rattle.answers.proofs.Fault.at.Kinds as at_kinds
use Rattle.answers.proofs.Fault.at.Reads as at
use Rattle.answers.proofs.accepted.Kinds as accepted_kinds
use Rattle.answers.proofs.accepted.Reads as accepted
use Rattle.answers.proofs.refused.Kinds as refused_kinds
use Rattle.answers.proofs.refused.Reads as refused
use Rattle.answers.proofs.refused_by.Kinds as refused_by_kinds
use Rattle.answers.proofs.refused_by.Reads as refused_by
use Rattle.answers.proofs.byte_fault.Kinds as byte_fault_kinds
use Rattle.answers.proofs.byte_fault.Reads as byte_fault
use Rattle.answers.proofs.length_fault.Kinds as length_fault_kinds
use Rattle.answers.proofs.length_fault.Reads as length_fault
use Rattle.answers.proofs.pack.Kinds as pack_kinds
use Rattle.answers.proofs.pack.Reads as pack
use Rattle.answers.proofs.tell.Kinds as tell_kinds
use Rattle.answers.proofs.tell.Reads as tell
use Rattle.answers.proofs.room.Kinds as room_kinds
use Rattle.answers.proofs.room.Reads as room
use Rattle.answers.proofs.put.Kinds as put_kinds
use Rattle.answers.proofs.put.Reads as put
use Rattle.answers.proofs.leave.Kinds as leave_kinds
use Rattle.answers.proofs.leave.Reads as leave
use Rattle.answers.proofs.store_three.Kinds as store_three_kinds
use Rattle.answers.proofs.store_three.Reads as store_three

pub accepted_settled : Settled 0 accepted_kinds.ps accepted_kinds.r accepted.Post
accepted_settled κs a r₁ r₂ s₁ s₂ p q = p ∙ sym q

pub refused_settled : Settled 0 refused_kinds.ps refused_kinds.r refused.Post
refused_settled κs a r₁ r₂ s₁ s₂ p q = p ∙ sym q

pub refused_by_settled : Settled 0 refused_by_kinds.ps refused_by_kinds.r refused_by.Post
refused_by_settled κs a r₁ r₂ s₁ s₂ p q = p ∙ sym q

pub byte_fault_settled : Settled 1 byte_fault_kinds.ps byte_fault_kinds.r byte_fault.Post
byte_fault_settled κs a r₁ r₂ s₁ s₂ p q = p.1.0 ∙ sym q.1.0

pub length_fault_settled : Settled 0 length_fault_kinds.ps length_fault_kinds.r length_fault.Post
length_fault_settled κs a r₁ r₂ s₁ s₂ p q = p.0 ∙ sym q.0

pub pack_settled : Settled 0 pack_kinds.ps pack_kinds.r pack.Post
pack_settled κs a r₁ r₂ s₁ s₂ p q = p.0 ∙ sym q.0

pub tell_settled : Settled 0 tell_kinds.ps tell_kinds.r tell.Post
tell_settled κs a r₁ r₂ s₁ s₂ p q = p.0 ∙ sym q.0

-- what is seen is the buffer afterwards
pub put_settled : SettledAs 2 put_kinds.ps put_kinds.r (λ κs. List ℕ) (λ κs x s. s.0.now) put.Post
put_settled κs a r₁ r₂ s₁ s₂ p q = p ∙ sym q

pub store_three_settled : SettledAs 1 store_three_kinds.ps store_three_kinds.r (λ κs. List ℕ) (λ κs x s. s.0.now) store_three.Post
store_three_settled κs a r₁ r₂ s₁ s₂ p q = p ∙ sym q

pub leave_settled : SettledAs 2 leave_kinds.ps leave_kinds.r (λ κs. ℕ × List ℕ) (λ κs x s. (x, s.0.now)) leave.Post
leave_settled κs a r₁ r₂ s₁ s₂ p q i = ((p.returned ∙ sym q.returned) i, (p.slice ∙ sym q.slice) i)

pub at_settled : Settled 0 at_kinds.ps at_kinds.r at.Post
at_settled κs a r₁ r₂ s₁ s₂ p q = p ∙ sym q

-- for every N that a usize holds
pub room_settled : (N : ℕ) (fits : Fits w64 N) → Settled 1 (room_kinds.ps N fits) (room_kinds.r N fits) (room.Post N fits)
room_settled N fits κs a r₁ r₂ s₁ s₂ p q = ext_get_or 0 r₁ r₂ (sym p.0 ∙ q.0) (λ i _. p.1 i ∙ sym (q.1 i))
