-- The closure still is the test, and no character before the place reached passes it.
use Rattle.std.proofs.Common.{◌≡◌, ◌-◌, ℕ, Bool, length, Bor}
use denote.Param.Members.{Called}
use Rattle.words.proofs.Scans.{Scan}
use Rattle.words.proofs.passed.Given as goal

-- each call of it in this state answers as the test does, and leaves the state as it is
abbrev pub Answers : (g : goal.Over) → g.row.F.Denot → (ℕ → Bool) → Type 0
Answers g stops t =
    (c : Bor ℕ) (r : Bool) (state : g.row.F.Denot) → Called g.F.FnMut stops (c, tt) r state → (state ≡ stops) × (r ≡ t c.now)

abbrev pub invariant-loop-i : goal.invariant-loop-i
invariant-loop-i g l =
    (t : ℕ → Bool) → Answers g l.initial.stops t → Answers g l.stops t × Scan t l.text l.at l.i

abbrev pub decreases-loop-i : goal.decreases-loop-i
decreases-loop-i g l = length l.text - l.i
