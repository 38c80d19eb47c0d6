-- What the cubes from here on give is what all give.
use Rattle.std.proofs.Common.{◌≡◌, drop}
use Rattle.cubes.specs.Values.{in_pairs}
use Rattle.partial.specs.Partial.{found, row}
use Rattle.partial.proofs.Rows.{row_from}
use Rattle.partial.proofs.Carried.row.Given as goal

abbrev pub invariant-loop-v : goal.invariant-loop-v
invariant-loop-v l =
    found (row l.fn.self l.fn.list l.fn.s l.fn.u) ≡ row_from l.fn.self l.fn.s l.fn.u l.v (drop l.v (in_pairs l.fn.list))
