-- The search ends at the first cube with a code.
use Rattle.std.proofs.Common.{◌∙◌, refl, sym, ap, Err}
use Rattle.records.proofs.Walks.{rest_pairs, search_starts, search_goes, search_found, search_ends}
use Rattle.records.proofs.cubes_fault.Goals as goal

pub loop-k-init : goal.loop-k-init
loop-k-init c = search_starts _ _ _ _

pub returns-in-Some : goal.returns-in-Some
returns-in-Some c =
    ap Err c.at.ensures
    ∙ search_found _ _ _ _ _ c.loop-k.invariant _ (rest_pairs c.args.list.now c.args.from c.each-pos-items.ensures) _ _ _ c.loop-k-test.true c.in-Some.ensures refl

pub loop-k-preserved : goal.loop-k-preserved
loop-k-preserved c = search_goes _ _ _ _ _ c.loop-k.invariant _ (rest_pairs c.args.list.now c.args.from c.each-pos-items.ensures) _ c.loop-k-test.true (sym c.in_default.ensures)

pub returns : goal.returns
returns c = search_ends _ _ _ _ _ c.loop-k.invariant _ (rest_pairs c.args.list.now c.args.from c.each-pos-items.ensures) c.loop-k-test.false
