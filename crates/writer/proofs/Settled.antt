-- Any two outcomes that a public contract allows are equal.
use mathlib.Core.Path.{sym, ◌∙◌}
use Rattle.settled.specs.Settled.{SettledAs}
use Prim.Native.Nat.{ℕ}
use mathlib.Core.List.{List}
use Rattle.answers.specs.declared.Answer.{Answer}
use Rattle.writer.proofs.store.Kinds as store_kinds
use Rattle.writer.proofs.store.Reads as store
use Rattle.writer.proofs.write.Kinds as write_kinds
use Rattle.writer.proofs.write.Reads as write

-- the answer, and the buffer afterwards
pub write_settled : SettledAs 3 write_kinds.ps write_kinds.r (λ κs. Answer × List ℕ) (λ κs x s. (x, s.1.1.1.0.now)) write.Post
write_settled κs a r₁ r₂ s₁ s₂ p q i = ((p.returned ∙ sym q.returned) i, (p.buffer ∙ sym q.buffer) i)

-- the buffer afterwards
pub store_settled : SettledAs 3 store_kinds.ps store_kinds.r (λ κs. List ℕ) (λ κs x s. s.1.1.1.0.now) store.Post
store_settled κs a r₁ r₂ s₁ s₂ p q = p ∙ sym q
