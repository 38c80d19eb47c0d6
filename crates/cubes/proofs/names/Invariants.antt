-- The mask has the inputs that the cubes so far name.
use Rattle.std.proofs.Common.{◌≡◌, ℕ, take}
use Rattle.std.specs.List.{list_any}
use Rattle.bits.specs.Bits.{has}
use Rattle.cubes.specs.Cubes.{cube_names}
use Rattle.cubes.proofs.Lists.{of_pair}
use Rattle.cubes.proofs.names.Given as goal

abbrev pub invariant-loop-pos : goal.invariant-loop-pos
invariant-loop-pos l = (i : ℕ) → has l.mask i ≡ list_any (of_pair (λ P N. cube_names P N i)) (take l.pos-index l.pos-items)
