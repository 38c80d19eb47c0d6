-- What is stored so far, followed by the low bytes of what is left of the number, is all of its low bytes.
use Rattle.std.proofs.Common.{◌≡◌, ◌-◌}
use Rattle.std.proofs.lemmas.List.Edits.{sets}
use Rattle.partial.specs.Partial.{as_bytes}
use Rattle.matcher.proofs.write_match.Given as goal

abbrev pub invariant-loop-at : goal.invariant-loop-at
invariant-loop-at l = sets l.out l.at (as_bytes (l.needed - l.at) l.rest) ≡ sets l.initial.out 4 (as_bytes (l.needed - 4) l.fn.choices)
