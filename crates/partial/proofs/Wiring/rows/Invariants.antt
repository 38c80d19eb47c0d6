-- What the cubes from here on give is what all give.
use Rattle.std.proofs.Common.{◌≡◌, drop}
use Rattle.cubes.specs.Values.{in_pairs}
use Rattle.partial.specs.Partial.{found, prefix, rows}
use Rattle.partial.proofs.Rows.{rows_from}
use Rattle.partial.proofs.Wiring.rows.Given as goal

abbrev pub invariant-loop-u : goal.invariant-loop-u
invariant-loop-u l =
    let r = l.fn.self.masks in
    found (rows r.n (prefix r) l.fn.list l.fn.other l.fn.s) ≡ rows_from r.n (prefix r) l.fn.other l.fn.s l.u (drop l.u (in_pairs l.fn.list))
