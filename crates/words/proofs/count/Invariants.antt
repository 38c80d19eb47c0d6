-- What remains to be read decides.
use Rattle.std.proofs.Common.{◌≡◌, drop}
use Rattle.words.specs.Counted.{counted}
use Rattle.words.proofs.Scans.{reading}
use Rattle.words.proofs.count.Given as goal

abbrev pub invariant-loop-c : goal.invariant-loop-c
invariant-loop-c l = counted l.w ≡ reading l.value (drop l.c-index l.w)
