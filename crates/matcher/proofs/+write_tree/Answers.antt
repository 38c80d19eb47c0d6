-- A node that is split begins with FF; each child's tree has room and is written after those before it.
use Rattle.std.proofs.Common.{ℕ, arith}
use Rattle.std.proofs.lemmas.List.{length-set}
use Rattle.partial.proofs.Steps.{less_left}
use Rattle.matcher.proofs.Writing.{mark_room, writing_start, child_room, child_written}
use Rattle.matcher.proofs.+write_tree.Goals as goal

pub bounds-out-start : goal.bounds-out-start
bounds-out-start t c = mark_room _ _ _ _ c.args.w.formed c.in_default.ensures _ _ c.requires

pub loop-c-init : goal.loop-c-init
loop-c-init t c = writing_start _ _ _ _ c.args.w.formed c.in_default.ensures _ _ _ c.offer-c.ensures

pub write_tree-end-requires : goal.write_tree-end-requires
write_tree-end-requires t c =
    let s = c.args.w.formed in
    let placed = c.place.ensures in
    let i = c.loop-c.invariant in
    let room = child_room _ _ _ _ s _ _ c.loop-c-test.true c.choice.ensures _ _ _ _ i _ placed _ c.requires in (
      omega (arith, c.decreases, less_left _ s _ _ placed),
      omega (arith, room, c.loop-c.auto.out, length-set {A = ℕ}),
    )

pub loop-c-preserved : goal.loop-c-preserved
loop-c-preserved t c =
    let written = c.write_tree-end.ensures in
    child_written _ _ _ _ c.args.w.formed _ _ c.loop-c-test.true c.choice.ensures _ _ _ _ c.loop-c.invariant _
    c.place.ensures _ _ written.value written.out_after _ c.offer-c-in-loop-c.ensures
