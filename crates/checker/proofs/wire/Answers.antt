-- The choices are made one by one; each way out says what remains.
use Rattle.checker.proofs.Making.{making_starts, making_stops, making_goes}
use Rattle.checker.proofs.wire.Goals as goal

pub loop-k-init : goal.loop-k-init
loop-k-init c = making_starts _ _ _ _ c.start-wiring.ensures

pub returns-in-Some : goal.returns-in-Some
returns-in-Some c = making_stops _ _ _ _ _ c.loop-k.invariant _ c.loop-k-test.true _ _ c.in-Some.ensures c.at.ensures

pub loop-k-preserved : goal.loop-k-preserved
loop-k-preserved c = making_goes _ _ _ _ _ c.loop-k.invariant _ c.loop-k-test.true c.in_default.ensures _ c.place-wiring.ensures
