-- Each case leaves less to go through.
use Rattle.std.proofs.Common.{length}
use Rattle.table_cases.proofs.each.Given as goal

abbrev pub decreases-loop-head : goal.decreases-loop-head
decreases-loop-head g l = length l.rest
