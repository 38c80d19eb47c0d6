-- A mask has an input where one of its parts has.
use Rattle.std.proofs.Common.{arith}
use Rattle.std.proofs.lemmas.Grind.{common_steps}
use Rattle.bits.proofs.Bit.{has_zero, has_or}
use Rattle.cubes.proofs.Lists.{some_pairs}
use Rattle.cubes.specs.Cubes.{cube_names}
use Rattle.cubes.proofs.names.Goals as goal

pub loop-pos-init : goal.loop-pos-init
loop-pos-init c = has_zero

pub loop-pos-preserved : goal.loop-pos-preserved
loop-pos-preserved c i = grind (arith, common_steps, has_or, c.loop-pos.invariant i)

pub returns : goal.returns
returns c i = grind (arith, common_steps, some_pairs (λ P N. cube_names P N i) c.args.list.now, c.loop-pos.invariant i)
