-- The lesser of what was known at the start and of the cubes so far.
use Rattle.std.proofs.Common.{◌≡◌, take}
use Rattle.bits.specs.Bits.{lesser}
use Rattle.partial.specs.Partial.{prefix}
use Rattle.disagree.proofs.Lists.{met_by}
use Rattle.disagree.proofs.meeting.Given as goal

abbrev pub invariant-loop-pos : goal.invariant-loop-pos
invariant-loop-pos l = l.least ≡ lesser l.fn.known (met_by (prefix l.fn.w.masks) l.fn.theirs (take l.pos-index l.pos-items))
