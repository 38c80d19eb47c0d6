-- Refused by sizes, by cubes or for want of room, the buffer left alone; or stored.
use Rattle.std.proofs.Common.{◌∙◌, sym}
use Rattle.answers.proofs.Verdicts.{unless_next, unless_stop}
use Rattle.answers.proofs.Stores.{delivered_short, delivered_whole}
use Rattle.writer.specs.Writing.{writing}
use Rattle.writer.proofs.Laws.{writing_by}
use Rattle.writer.proofs.write.Goals as goal

pub returns-in-Err : goal.returns-in-Err
unfolding writing
returns-in-Err c = unless_stop _ _ _ _ _ (sym c.in-Err.ensures.value)

pub returns-in-Err-check_cubes : goal.returns-in-Err-check_cubes
unfolding writing
returns-in-Err-check_cubes c = rw (unless_next _ _ _ (sym c.in_default.ensures.value)) (unless_stop _ _ _ _ _ (sym c.in-Err-check_cubes.ensures))

pub returns-then-out-needed : goal.returns-then-out-needed
returns-then-out-needed c =
    let by_room = writing_by _ _ _ _ ∙ unless_next _ _ _ (sym c.in_default.ensures.value) ∙ unless_next _ _ _ (sym c.in_default-check_cubes.ensures) in
    delivered_short _ 3 _ _ _ by_room _ c.if-out-needed.true c.refused.ensures

pub returns : goal.returns
returns c =
    let by_room = writing_by _ _ _ _ ∙ unless_next _ _ _ (sym c.in_default.ensures.value) ∙ unless_next _ _ _ (sym c.in_default-check_cubes.ensures) in
    delivered_whole _ 3 _ _ _ by_room _ c.if-out-needed.false c.accepted.ensures _ c.store.ensures
