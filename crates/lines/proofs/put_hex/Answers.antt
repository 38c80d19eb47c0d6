-- Two digits and a gap for each byte.
use Rattle.std.proofs.Common.{arith}
use Rattle.lines.proofs.Texts.{spelt_room, spelt_one, spelt_all}
use Rattle.lines.proofs.put_hex.Goals as goal

pub put-requires : goal.put-requires
put-requires c = spelt_room _ _ _ _ _ _ c.loop-i.invariant c.loop-i-test.true c.requires

pub overflow_add-at : goal.overflow_add-at
overflow_add-at c = let room = spelt_room _ _ _ _ _ _ c.loop-i.invariant c.loop-i-test.true c.requires in omega (arith, room)

pub loop-i-preserved : goal.loop-i-preserved
loop-i-preserved c =
    spelt_one _ _ _ _ _ _ c.loop-i.invariant c.loop-i-test.true _ _ _ _ c.digit.ensures c.digit-in-loop-i.ensures c.gap.ensures c.put.ensures

pub returns : goal.returns
returns c = spelt_all _ _ _ _ _ _ c.loop-i.invariant c.loop-i-test.false
