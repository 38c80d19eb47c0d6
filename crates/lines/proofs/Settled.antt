-- Any two outcomes that a public contract allows are equal.
use Prim.Native.Nat.{ℕ}
use mathlib.Core.Path.{sym, ◌∙◌}
use mathlib.Core.List.{List}
use Rattle.settled.specs.Settled.{SettledAs}
use Rattle.lines.proofs.match_lines.Kinds as match_lines_kinds
use Rattle.lines.proofs.match_lines.Reads as match_lines
use Rattle.lines.proofs.check_lines.Kinds as check_lines_kinds
use Rattle.lines.proofs.check_lines.Reads as check_lines

-- the length, and the buffer afterwards
pub match_lines_settled : SettledAs 2 match_lines_kinds.ps match_lines_kinds.r (λ κs. ℕ × List ℕ) (λ κs x s. (x, s.1.0.now)) match_lines.Post
match_lines_settled κs a r₁ r₂ s₁ s₂ p q i = ((p.1.returned ∙ sym q.1.returned) i, (p.1.slice ∙ sym q.1.slice) i)

pub check_lines_settled : SettledAs 2 check_lines_kinds.ps check_lines_kinds.r (λ κs. ℕ × List ℕ) (λ κs x s. (x, s.1.0.now)) check_lines.Post
check_lines_settled κs a r₁ r₂ s₁ s₂ p q i = ((p.1.returned ∙ sym q.1.returned) i, (p.1.slice ∙ sym q.1.slice) i)
