-- Each call has one input less to be placed; the loop goes through the choices, and what the choices still offered give, with the
-- length so far, is the whole answer.
use Rattle.std.proofs.Common.{◌-◌, ◌*◌}
use Rattle.matcher.proofs.Searching.{Searching}
use Rattle.matcher.proofs.+search.Given as goal

abbrev pub decreases-search : goal.decreases-search
decreases-search l = l.w.masks.n - l.w.masks.depth

abbrev pub invariant-loop-c : goal.invariant-loop-c
invariant-loop-c l = Searching l.fn.w.masks l.fn.q l.fn.both.f.bytes.now l.fn.both.g.bytes.now l.c l.length

abbrev pub decreases-loop-c : goal.decreases-loop-c
decreases-loop-c l = 2 * l.w.masks.n - l.c
