-- No cube so far has a fault.
use Rattle.std.proofs.Common.{drop}
use Rattle.records.specs.Records.{cube_code, no_pattern}
use Rattle.records.proofs.Walks.{Search}
use Rattle.records.proofs.cubes_fault.Given as goal

abbrev pub invariant-loop-k : goal.invariant-loop-k
invariant-loop-k l = Search (cube_code l.fn.n) no_pattern (drop l.fn.from l.fn.list) l.fn.from l.k
