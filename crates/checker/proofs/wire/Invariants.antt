-- So many choices are made, and the wiring has them.
use Rattle.checker.proofs.Making.{Making}
use Rattle.checker.proofs.wire.Given as goal

abbrev pub invariant-loop-k : goal.invariant-loop-k
invariant-loop-k l = Making l.fn.n l.fn.bytes l.fn.from l.k l.wiring
