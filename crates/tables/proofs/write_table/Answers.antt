-- Refused for the record's fault or for want of room, the buffer left alone; or stored, part by part.
use Rattle.std.proofs.Common.{◌∙◌, sym, ap, refl, arith}
use Rattle.answers.specs.declared.Answer.{Answer}
use Rattle.answers.proofs.Faults.{by_stop}
use Rattle.answers.proofs.Stores.{delivered_refusal, delivered_short, delivered_whole}
use Rattle.answers.proofs.Verdicts.{verdict_ok, verdict_err}
use Rattle.records.proofs.Frame.{record_sound}
use Rattle.terms.proofs.Writing.{terms_long}
use Rattle.tables.specs.Tables.{table_writing}
use Rattle.tables.proofs.Export.{lines_long, table_by_room, table_stored}
use Rattle.tables.proofs.write_table.Goals as goal

pub returns-in-Err : goal.returns-in-Err
unfolding table_writing
returns-in-Err c =
    let found = verdict_err _ _ (sym c.in-Err.ensures.value) in
    delivered_refusal _ _ _ _ (by_stop 1 _ _ _ _ found.is found.coded c.refused_by.ensures)
    (λ z. found.coded (ap (λ (a : Answer). a.code) (sym c.refused_by.ensures) ∙ z))

pub returns-then-out-needed : goal.returns-then-out-needed
returns-then-out-needed c =
    let sound = verdict_ok _ _ (sym c.in_default.ensures.value) in
    delivered_short _ 3 _ _ _ (table_by_room _ sound _ c.put_head-len.ensures.value _) _ c.if-out-needed.true c.refused.ensures

pub put_terms-on_end-requires-clause-list_in_bounds : goal.put_terms-on_end-requires-clause-list_in_bounds
put_terms-on_end-requires-clause-list_in_bounds c =
    let framed = (record_sound _ (verdict_ok _ _ (sym c.in_default.ensures.value))).framed in
    simp terms_long (omega (arith, lines_long _ framed _ _ c.on_list.ensures refl))

pub put_terms-off_end-requires-clause-list_in_bounds : goal.put_terms-off_end-requires-clause-list_in_bounds
put_terms-off_end-requires-clause-list_in_bounds c =
    let framed = (record_sound _ (verdict_ok _ _ (sym c.in_default.ensures.value))).framed in
    simp (c.put_terms-on_end.ensures.value, terms_long) (omega (arith, lines_long _ framed _ _ c.on_list.ensures c.off_list.ensures))

pub put-requires-2 : goal.put-requires-2
put-requires-2 c =
    let framed = (record_sound _ (verdict_ok _ _ (sym c.in_default.ensures.value))).framed in
    simp (c.put_terms-off_end.ensures.value, c.put_terms-on_end.ensures.value, terms_long) (omega (arith, lines_long _ framed _ _ c.on_list.ensures c.off_list.ensures))

pub returns : goal.returns
returns c =
    let sound = verdict_ok _ _ (sym c.in_default.ensures.value) in
    let framed = (record_sound _ sound).framed in
    let head = c.put_head-len.ensures in
    let on = c.put_terms-on_end.ensures in
    let off = c.put_terms-off_end.ensures in
    delivered_whole _ 3 _ _ _ (table_by_room _ sound _ head.value _) _ c.if-out-needed.false c.accepted.ensures _
    (table_stored _ framed _ _ _ _ _ _ _ _ _ _ _ _ head.upper_bound head.value head.out_after c.put.ensures c.on_list.ensures on.value on.out_after c.off_list.ensures off.value off.out_after c.put-2.ensures)
