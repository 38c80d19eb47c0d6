-- Any two outcomes that a public contract allows are equal.
use Prim.Native.Nat.{ℕ}
use mathlib.Core.Path.{sym, ◌∙◌}
use mathlib.Core.List.{List}
use Rattle.settled.specs.Settled.{Settled, SettledAs}
use Rattle.host.proofs.zap_match.Kinds as zap_match_kinds
use Rattle.host.proofs.zap_match.Reads as zap_match
use Rattle.host.proofs.zap_check.Kinds as zap_check_kinds
use Rattle.host.proofs.zap_check.Reads as zap_check
use Rattle.host.proofs.zap_summary.Kinds as zap_summary_kinds
use Rattle.host.proofs.zap_summary.Reads as zap_summary
use Rattle.host.proofs.zap_write.Kinds as zap_write_kinds
use Rattle.host.proofs.zap_write.Reads as zap_write
use Rattle.host.proofs.zap_read_table.Kinds as zap_read_table_kinds
use Rattle.host.proofs.zap_read_table.Reads as zap_read_table
use Rattle.host.proofs.zap_write_table.Kinds as zap_write_table_kinds
use Rattle.host.proofs.zap_write_table.Reads as zap_write_table

-- the number, and the buffer afterwards
pub zap_match_settled : SettledAs 3 zap_match_kinds.ps zap_match_kinds.r (λ κs. ℕ × List ℕ) (λ κs x s. (x, s.1.1.0.now)) zap_match.Post
zap_match_settled κs a r₁ r₂ s₁ s₂ p q i = ((p.0 ∙ sym q.0) i, (p.1.1 ∙ sym q.1.1) i)

pub zap_check_settled : Settled 3 zap_check_kinds.ps zap_check_kinds.r zap_check.Post
zap_check_settled κs a r₁ r₂ s₁ s₂ p q = p.0 ∙ sym q.0

-- the number, and the figures afterwards
pub zap_summary_settled : SettledAs 2 zap_summary_kinds.ps zap_summary_kinds.r (λ κs. ℕ × List ℕ) (λ κs x s. (x, s.1.0.now)) zap_summary.Post
zap_summary_settled κs a r₁ r₂ s₁ s₂ p q i = ((p.0.returned ∙ sym q.0.returned) i, (p.0.slice ∙ sym q.0.slice) i)

-- the number, and the buffer afterwards
pub zap_write_settled : SettledAs 3 zap_write_kinds.ps zap_write_kinds.r (λ κs. ℕ × List ℕ) (λ κs x s. (x, s.1.1.1.0.now)) zap_write.Post
zap_write_settled κs a r₁ r₂ s₁ s₂ p q i = ((p.0 ∙ sym q.0) i, (p.1.1 ∙ sym q.1.1) i)

pub zap_read_table_settled : SettledAs 2 zap_read_table_kinds.ps zap_read_table_kinds.r (λ κs. ℕ × List ℕ) (λ κs x s. (x, s.1.0.now)) zap_read_table.Post
zap_read_table_settled κs a r₁ r₂ s₁ s₂ p q i = ((p.0 ∙ sym q.0) i, (p.1.1 ∙ sym q.1.1) i)

pub zap_write_table_settled : SettledAs 2 zap_write_table_kinds.ps zap_write_table_kinds.r (λ κs. ℕ × List ℕ) (λ κs x s. (x, s.1.0.now)) zap_write_table.Post
zap_write_table_settled κs a r₁ r₂ s₁ s₂ p q i = ((p.0 ∙ sym q.0) i, (p.1.1 ∙ sym q.1.1) i)
