-- Header and cubes have no fault, so the on cubes decide.
use Rattle.std.proofs.Common.{◌∙◌, sym, ap}
use Rattle.answers.specs.Verdicts.{verdict}
use Rattle.answers.proofs.Verdicts.{verdict_ok}
use Rattle.records.proofs.Cubes.{clash_told}
use Rattle.records.proofs.record_fault.Goals as goal

pub returns-clause-value : goal.returns-clause-value
returns-clause-value c =
    let header = verdict_ok _ _ (sym c.header_fault.ensures.value ∙ c.in_ok-header_fault.was) in
    let cubes = verdict_ok _ _ (sym c.cubes_fault.ensures ∙ c.in_ok-cubes_fault.was) in
    c.clash_fault.ensures ∙ ap verdict (clash_told _ _ (λ i. (c.type_inv.s i).fits) header cubes c.off_list.ensures)
