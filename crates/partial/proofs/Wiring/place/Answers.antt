-- The next input gets its choice: in each mask a bit changes, and a byte is added.
use Rattle.partial.proofs.Standing.{placed, stands_formed}
use Rattle.partial.proofs.Wiring.place.Goals as goal

pub invariant_of-result : goal.invariant_of-result
invariant_of-result c = record { formed = stands_formed _ _ _ (placed c.args.self.masks c.args.choice c.args.self.formed c.requires) }

pub returns : goal.returns
returns c = placed c.args.self.masks c.args.choice c.args.self.formed c.requires
