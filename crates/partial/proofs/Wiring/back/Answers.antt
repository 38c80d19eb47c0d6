-- The last choice is taken back: in each mask a bit changes, and a byte is taken away.
use Rattle.partial.proofs.Standing.{stands_formed}
use Rattle.partial.proofs.Back.{stands_last, taken_back}
use Rattle.partial.proofs.Wiring.back.Goals as goal

pub invariant_of-result : goal.invariant_of-result
invariant_of-result c =
    record { formed = stands_formed _ _ _ (taken_back _ _ _ _ (stands_last c.args.self.masks c.args.self.formed c.requires _ c.last-choice.ensures)) }

pub returns : goal.returns
returns c = taken_back _ _ _ _ (stands_last c.args.self.masks c.args.self.formed c.requires _ c.last-choice.ensures)
