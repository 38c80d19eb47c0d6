-- What is stored so far, followed by what remains, is the whole run.
use Rattle.std.proofs.Common.{◌≡◌, ◌+◌, drop}
use Rattle.std.proofs.lemmas.List.Edits.{sets}
use Rattle.answers.proofs.put.Given as goal

abbrev pub invariant-loop-i : goal.invariant-loop-i
invariant-loop-i l = sets l.out (l.at + l.i) (drop l.i l.bytes) ≡ sets l.fn.out l.at l.bytes
