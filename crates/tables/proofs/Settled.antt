-- Any two outcomes that a public contract allows are equal.
use Prim.Native.Nat.{ℕ}
use mathlib.Core.Path.{sym, ◌∙◌}
use mathlib.Core.List.{List}
use Rattle.settled.specs.Settled.{SettledAs}
use Rattle.answers.specs.declared.Answer.{Answer}
use Rattle.tables.proofs.read_table.Kinds as read_table_kinds
use Rattle.tables.proofs.read_table.Reads as read_table
use Rattle.tables.proofs.write_table.Kinds as write_table_kinds
use Rattle.tables.proofs.write_table.Reads as write_table

-- the answer, and the buffer afterwards
pub read_table_settled : SettledAs 2 read_table_kinds.ps read_table_kinds.r (λ κs. Answer × List ℕ) (λ κs x s. (x, s.1.0.now)) read_table.Post
read_table_settled κs a r₁ r₂ s₁ s₂ p q i = ((p.returned ∙ sym q.returned) i, (p.buffer ∙ sym q.buffer) i)

pub write_table_settled : SettledAs 2 write_table_kinds.ps write_table_kinds.r (λ κs. Answer × List ℕ) (λ κs x s. (x, s.1.0.now)) write_table.Post
write_table_settled κs a r₁ r₂ s₁ s₂ p q i = ((p.returned ∙ sym q.returned) i, (p.buffer ∙ sym q.buffer) i)
