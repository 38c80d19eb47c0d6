-- The first characters are stored.
use Rattle.std.proofs.Common.{◌≡◌}
use Rattle.std.proofs.lemmas.List.Edits.{sets}
use Rattle.terms.specs.Terms.{characters}
use Rattle.terms.proofs.put_term.Given as goal

abbrev pub invariant-loop-i : goal.invariant-loop-i
invariant-loop-i l = l.out ≡ sets l.fn.out l.start (characters l.i l.cube.pos l.cube.neg)
