-- A character that is no input's decides; and each input's adds its weight, or none.
use Rattle.std.proofs.Common.{◌∙◌, arith}
use Rattle.std.proofs.lemmas.Grind.{common_steps}
use Rattle.terms.specs.Terms.{on_char, off_char}
use Rattle.terms.proofs.Seen.{masking, sum_most, one_more, next_weight, goes_on}
use Rattle.terms.proofs.masks.Goals as goal

pub returns-then-not-input : goal.returns-then-not-input
returns-then-not-input c = grind (arith, common_steps, masking)

pub overflow_add-pos : goal.overflow_add-pos
overflow_add-pos c =
    let k = c.loop-c in
    omega (arith, sum_most c.args.w.now on_char k.c-index _ _ _ k.invariant.1 k.invariant.0 (omega arith) c.worth-pos.ensures.upper_bound)

pub overflow_add-neg : goal.overflow_add-neg
overflow_add-neg c =
    let k = c.loop-c in
    omega (arith, sum_most c.args.w.now off_char k.c-index _ _ _ k.invariant.2 k.invariant.0 (omega arith) c.worth-neg.ensures.upper_bound)

pub loop-c-preserved : goal.loop-c-preserved
loop-c-preserved c =
    let k = c.loop-c in
    let w = c.args.w.now in
    let so_far = k.invariant in (
      next_weight k.c-index _ so_far.0,
      one_more w _ k.c-index _ _ _ so_far.1 so_far.0 c.worth-pos.ensures.value,
      one_more w _ k.c-index _ _ _ so_far.2 so_far.0 c.worth-neg.ensures.value,
      so_far.3 ∙ goes_on w k.c-index c.loop-c-test.true _ c.input.ensures c.if-not-input.false,
    )
