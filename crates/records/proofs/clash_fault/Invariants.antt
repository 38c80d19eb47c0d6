-- No cube so far has a fault.
use Rattle.std.proofs.Common.{drop}
use Rattle.records.specs.Records.{clash_code, clash_pattern}
use Rattle.records.proofs.Walks.{Search}
use Rattle.records.proofs.clash_fault.Given as goal

abbrev pub invariant-loop-k : goal.invariant-loop-k
invariant-loop-k l = Search (clash_code 8 l.fn.off) (clash_pattern 8 l.fn.off) (drop l.fn.from l.fn.on) l.fn.from l.k
