-- Refused for a shared pattern, at its place in the record, or for want of room; or stored.
use Rattle.std.proofs.Common.{◌∙◌, sym, ap, refl, length, arith}
use Rattle.answers.specs.declared.Answer.{Answer}
use Rattle.answers.specs.declared.Fault.{Fault}
use Rattle.answers.specs.Answers.{fits}
use Rattle.answers.proofs.Stores.{delivered_refusal, delivered_short, delivered_whole}
use Rattle.answers.proofs.Verdicts.{verdict_ok, verdict_err}
use Rattle.records.specs.Records.{clash_code, clash_pattern}
use Rattle.records.proofs.Places.{first_place}
use Rattle.writer.proofs.Laws.{record_long}
use Rattle.tables.proofs.Delivery.{clash_refused, clash_none}
use Rattle.tables.proofs.deliver.Goals as goal

pub overflow_add-clash : goal.overflow_add-clash
overflow_add-clash c =
    let a = c.args in
    let found = verdict_err _ _ (sym c.in-Err.ensures) in
    omega (arith, ap (λ (f : Fault). f.place) found.is, first_place (clash_code 8 a.off.now) (clash_pattern 8 a.off.now) a.on.now 0, c.requires.on_few)

pub returns-in-Err : goal.returns-in-Err
returns-in-Err c =
    let a = c.args in
    let found = verdict_err _ _ (sym c.in-Err.ensures) in
    delivered_refusal _ _ _ _
    (clash_refused a.n a.on.now a.off.now c.requires (λ i. (c.type_inv.on i).fits) (λ i. (c.type_inv.off i).fits) _ found.is found.coded _ c.refused_by.ensures _)
    (λ z. found.coded (ap (λ (x : Answer). x.code) (sym c.refused_by.ensures) ∙ z))

pub returns-then-out-long : goal.returns-then-out-long
returns-then-out-long c =
    let a = c.args in
    let by_room =
    clash_none a.n a.on.now a.off.now c.requires (λ i. (c.type_inv.on i).fits) (λ i. (c.type_inv.off i).fits) _ refl (verdict_ok _ _ (sym c.in_default.ensures)) (length a.out.now)
    ∙ ap (fits 3 (length a.out.now)) (record_long a.n a.on.now a.off.now) in
    delivered_short _ 3 _ _ _ by_room _ c.if-out-long.true c.refused.ensures

pub returns : goal.returns
returns c =
    let a = c.args in
    let by_room =
    clash_none a.n a.on.now a.off.now c.requires (λ i. (c.type_inv.on i).fits) (λ i. (c.type_inv.off i).fits) _ refl (verdict_ok _ _ (sym c.in_default.ensures)) (length a.out.now)
    ∙ ap (fits 3 (length a.out.now)) (record_long a.n a.on.now a.off.now) in
    delivered_whole _ 3 _ _ _ by_room _ c.if-out-long.false c.accepted.ensures _ c.store.ensures
