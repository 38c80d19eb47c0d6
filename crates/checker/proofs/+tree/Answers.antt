-- A call for a choice has one input less to be placed, and its tree is the first of those that are left.
use Rattle.std.proofs.Common.{arith}
use Rattle.std.proofs.lemmas.Result.{err_from_is_err_and}
use Rattle.partial.proofs.Steps.{less_left, offer_after}
use Rattle.checker.proofs.Children.{reading_start, child_read, child_refused}
use Rattle.checker.proofs.+tree.Goals as goal

pub loop-c-init : goal.loop-c-init
loop-c-init t c = (
  reading_start _ _ _ _ _ _ _ c.if-claim-start.false c.if-claim-start-2.false c.if-w.false c.offer-c.ensures,
  omega (arith, c.if-claim-start.false),
)

pub tree-requires : goal.tree-requires
tree-requires t c = (omega (arith, c.decreases, less_left c.args.w.masks c.args.w.formed _ _ c.place.ensures), tt {0})

pub returns-in_err-next-clause-value : goal.returns-in_err-next-clause-value
returns-in_err-next-clause-value t c =
    let p = err_from_is_err_and c.from_residual.result c.from_residual.ensures.1 in
    let so_far = c.loop-c.invariant.0 in
    rw (p.1, p.2)
    (child_refused _ _ _ _ _ _ _ _ _ so_far c.loop-c-test.true c.choice.ensures c.place.result c.place.ensures _ c.tree.ensures.value _ c.in_err-next.was)

pub loop-c-smaller : goal.loop-c-smaller
loop-c-smaller t c = let after = offer_after _ _ _ _ c.offer-c-in-loop-c.ensures in omega (arith, after, c.loop-c-test.true)

pub loop-c-preserved : goal.loop-c-preserved
loop-c-preserved t c =
    let so_far = c.loop-c.invariant.0 in
    let next = c.offer-c-in-loop-c.ensures in (
      child_read _ _ _ _ _ _ _ _ _ so_far c.loop-c-test.true c.choice.ensures c.place.result c.place.ensures _ c.tree.ensures.value _ _ c.in_ok-next.was next,
      c.in_ok-next.ensures.inside,
    )
