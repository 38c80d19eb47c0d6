-- Each call has one input less to be placed; the loop goes through the choices, and what is written, followed by the trees of the
-- choices still offered, is the whole tree.
use Rattle.std.proofs.Common.{◌-◌, ◌*◌}
use Rattle.matcher.proofs.Writing.{Writing}
use Rattle.matcher.proofs.+write_tree.Given as goal

abbrev pub decreases-write_tree : goal.decreases-write_tree
decreases-write_tree l = l.w.masks.n - l.w.masks.depth

abbrev pub invariant-loop-c : goal.invariant-loop-c
invariant-loop-c l = Writing l.fn.w.masks l.fn.q l.fn.both.f.bytes.now l.fn.both.g.bytes.now l.fn.out l.fn.start l.c l.end l.out

abbrev pub decreases-loop-c : goal.decreases-loop-c
decreases-loop-c l = 2 * l.w.masks.n - l.c
