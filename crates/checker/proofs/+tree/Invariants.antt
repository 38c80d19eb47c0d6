-- Each call has one input less to be placed. The loop goes through the choices: what is left to be read of the split's trees is
-- the whole answer.
use Rattle.std.proofs.Common.{◌≤◌, ◌-◌, ◌*◌, length}
use Rattle.checker.proofs.Children.{Reading}
use Rattle.checker.proofs.+tree.Given as goal

abbrev pub decreases-tree : goal.decreases-tree
decreases-tree l = l.w.masks.n - l.w.masks.depth

abbrev pub invariant-loop-c : goal.invariant-loop-c
invariant-loop-c l =
    Reading l.w l.q l.both.f.bytes.now l.both.g.bytes.now l.fn.claim l.start l.c l.next × (l.next ≤ length l.fn.claim)

abbrev pub decreases-loop-c : goal.decreases-loop-c
decreases-loop-c l = 2 * l.w.masks.n - l.c
