-- The least of the cubes so far.
use Rattle.std.proofs.Common.{◌≡◌, take}
use Rattle.cubes.specs.Values.{number_of}
use Rattle.cubes.proofs.Lists.{least_of}
use Rattle.cubes.proofs.Cube.least_number.Given as goal

abbrev pub invariant-loop-cube : goal.invariant-loop-cube
invariant-loop-cube l = l.least ≡ number_of (least_of l.fn.self.pos l.fn.self.neg (take l.cube-index l.cube-items))
