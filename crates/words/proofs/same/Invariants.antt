-- What remains of both decides.
use Rattle.words.proofs.Scans.{Alike}
use Rattle.words.proofs.same.Given as goal

abbrev pub invariant-loop-i : goal.invariant-loop-i
invariant-loop-i l = Alike l.w l.v l.i
