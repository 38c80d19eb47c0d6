-- All n inputs are unplaced and free: the number 2^n − 1.
use Rattle.partial.proofs.Standing.{started, stands_formed}
use Rattle.partial.proofs.Wiring.start.Goals as goal

pub invariant_of-result : goal.invariant_of-result
invariant_of-result c = record { formed = stands_formed _ _ _ (started c.args.n c.requires) }

pub returns : goal.returns
returns c = started c.args.n c.requires
