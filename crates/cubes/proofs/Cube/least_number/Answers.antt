-- The masks of both cubes are read off their numbers.
use Rattle.std.proofs.Common.{arith}
use Rattle.cubes.proofs.Masks.{least_apart}
use Rattle.cubes.proofs.Lists.{number_more, masks_here}
use Rattle.cubes.proofs.Cube.least_number.Goals as goal

pub loop-cube-preserved : goal.loop-cube-preserved
loop-cube-preserved c =
    let byte = masks_here _ _ c.type_inv.list c.each-cube-items.ensures c.loop-cube.cube-index in
    let here = least_apart _ _ _ _ _ _ (omega arith) (byte 0) c.joined-own.ensures c.joined.ensures in
    grind (arith, number_more)
