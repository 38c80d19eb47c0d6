-- The lines before `at` are read, and none of them has a fault or is the end.
use Rattle.std.proofs.Common.{length, ◌-◌, ◌+◌}
use Rattle.rows.proofs.Scanned.{Walked}
use Rattle.rows.proofs.gather.Given as goal

abbrev pub invariant-loop-at : goal.invariant-loop-at
invariant-loop-at l = Walked l.text l.at l.row l.known l.on l.off

abbrev pub decreases-loop-at : goal.decreases-loop-at
decreases-loop-at l = length l.text + 1 - l.at
