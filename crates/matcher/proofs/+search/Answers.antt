-- The loop begins with FF's one byte; each child's search gives the first, or a length more; after the last choice all is summed.
use Rattle.std.proofs.Common.{sym, arith}
use Rattle.matcher.proofs.Searching.{searching_start, child_found, child_none, sum_fits, searched_all}
use Rattle.matcher.proofs.+search.Goals as goal

pub loop-c-init : goal.loop-c-init
loop-c-init t c = searching_start _ _ _ _ c.args.w.formed (cc) c.if-w.false _ c.offer-c.ensures

pub returns-in-Ok : goal.returns-in-Ok
returns-in-Ok t c =
    let s = c.args.w.formed in
    let i = c.loop-c.invariant in
    child_found _ _ _ _ s _ _ c.loop-c-test.true c.choice.ensures _ i _ c.place.ensures _ c.in-Ok.ensures

pub overflow_add-length : goal.overflow_add-length
overflow_add-length t c =
    let s = c.args.w.formed in
    let i = c.loop-c.invariant in
    omega (arith, sum_fits _ _ _ _ s _ _ c.loop-c-test.true c.choice.ensures _ i _ c.place.ensures _ c.in-Err.ensures)

pub loop-c-preserved : goal.loop-c-preserved
loop-c-preserved t c =
    let s = c.args.w.formed in
    let i = c.loop-c.invariant in
    child_none _ _ _ _ s _ _ c.loop-c-test.true c.choice.ensures _ i _ c.place.ensures _ c.in-Err.ensures _
    c.offer-c-in-loop-c.ensures

pub returns : goal.returns
returns t c = sym (searched_all _ _ _ _ c.args.w.formed _ c.loop-c-test.false _ c.loop-c.invariant)
