-- A cube that is opposed shares nothing.
use Rattle.std.proofs.Common.{arith}
use Rattle.std.proofs.lemmas.Grind.{common_steps}
use Rattle.cubes.proofs.Masks.{opposed_none}
use Rattle.cubes.proofs.Lists.{open_more, masks_here}
use Rattle.cubes.proofs.Cube.any_open.Goals as goal

pub loop-cube-preserved : goal.loop-cube-preserved
loop-cube-preserved c =
    let byte = masks_here _ _ c.type_inv.list c.each-cube-items.ensures c.loop-cube.cube-index in
    let here = opposed_none _ _ _ _ _ _ (omega arith) (byte 0) (byte 1) c.joined-opposite.ensures c.joined.ensures in
    grind (arith, common_steps, open_more)
