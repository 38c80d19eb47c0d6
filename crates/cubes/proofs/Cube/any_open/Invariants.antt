-- Where no cube so far is open, none shares a pattern.
use Rattle.std.proofs.Common.{◌≡◌, false, take}
use Rattle.std.specs.declared.option.Option.TheVariants.{None}
use Rattle.cubes.proofs.Lists.{least_of}
use Rattle.cubes.proofs.Cube.any_open.Given as goal

abbrev pub invariant-loop-cube : goal.invariant-loop-cube
invariant-loop-cube l = l.any ≡ false → least_of l.fn.self.pos l.fn.self.neg (take l.cube-index l.cube-items) ≡ None
