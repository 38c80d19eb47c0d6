-- The same search, for on cubes that share a pattern with an off cube.
use Rattle.std.proofs.Common.{◌∙◌, sym, ap, Err}
use Rattle.records.proofs.Walks.{rest_pairs, search_starts, search_goes, search_found, search_ends}
use Rattle.answers.specs.declared.Fault.{Fault}
use Rattle.answers.specs.declared.Code.TheVariants.{OnAndOff}
use Rattle.records.proofs.Cubes.{clash_at, clash_nowhere}
use Rattle.records.proofs.clash_fault.Goals as goal

pub loop-k-init : goal.loop-k-init
loop-k-init c = search_starts _ _ _ _

pub returns-in-Some : goal.returns-in-Some
returns-in-Some c =
    let seven = clash_at _ _ _ _ _ c.in-Some.ensures in
    ap (λ (f : Fault). Err (record f { pattern = c.in-Some.pattern })) c.at.ensures
    ∙ search_found _ _ _ _ _ c.loop-k.invariant _ (rest_pairs c.args.on.now c.args.from c.each-pos-items.ensures) _ OnAndOff _ c.loop-k-test.true (sym seven.0) (sym seven.1)

pub loop-k-preserved : goal.loop-k-preserved
loop-k-preserved c = search_goes _ _ _ _ _ c.loop-k.invariant _ (rest_pairs c.args.on.now c.args.from c.each-pos-items.ensures) _ c.loop-k-test.true (clash_nowhere _ _ _ _ c.in_default.ensures)

pub returns : goal.returns
returns c = search_ends _ _ _ _ _ c.loop-k.invariant _ (rest_pairs c.args.on.now c.args.from c.each-pos-items.ensures) c.loop-k-test.false
