-- Each end hands back what the definition says, and a part ends within its record.
use Rattle.std.proofs.Common.{◌∙◌, sym, arith}
use Rattle.records.proofs.Part.{part_within, in_f, none_in_f, in_g, no_cube_in_g, sound_in_g}
use Rattle.records.proofs.at_fault.Goals as goal
use Rattle.records.proofs.at_fault.Goals.{in-Err-record_fault+else-is_cubes-2, in_default-record_fault}

pub overflow_add-result : goal.overflow_add-result
overflow_add-result c = omega (arith, part_within _ _ (sym c.record_fault.ensures.value ∙ c.in-Err.is) (sym c.is_cubes.ensures ∙ c.if-is_cubes.true))

pub slice_bounds-result-end : goal.slice_bounds-result-end
slice_bounds-result-end c = part_within _ _ (sym c.record_fault.ensures.value ∙ c.in-Err.is) (sym c.is_cubes.ensures ∙ c.if-is_cubes.true)

pub returns-then-is_cubes : goal.returns-then-is_cubes
returns-then-is_cubes c = in_f _ _ _ _ _ (sym c.record_fault.ensures.value ∙ c.in-Err.is) (sym c.is_cubes.ensures ∙ c.if-is_cubes.true)

pub returns-in-Err : goal.returns-in-Err
returns-in-Err c = none_in_f _ _ _ _ _ (sym c.record_fault.ensures.value ∙ c.in-Err.is) (sym c.is_cubes.ensures ∙ c.if-is_cubes.false)

pub overflow_add-result-then-is_cubes-2 : goal.overflow_add-result-then-is_cubes-2
overflow_add-result-then-is_cubes-2 c =
    omega (arith, part_within _ _ (sym c.record_fault-2.ensures.value ∙ c.in-Err-record_fault.is) (sym c.is_cubes-in-Err-record_fault.ensures ∙ c.if-is_cubes-2.true))

pub slice_bounds-result-end-then-is_cubes-2 : goal.slice_bounds-result-end-then-is_cubes-2
slice_bounds-result-end-then-is_cubes-2 c =
    part_within _ _ (sym c.record_fault-2.ensures.value ∙ c.in-Err-record_fault.is) (sym c.is_cubes-in-Err-record_fault.ensures ∙ c.if-is_cubes-2.true)

pub returns-then-is_cubes-2 : goal.returns-then-is_cubes-2
returns-then-is_cubes-2 c =
    in_g _ _ _ _ _ _ (sym c.record_fault.ensures.value ∙ c.in_default.is)
    (sym c.record_fault-2.ensures.value ∙ c.in-Err-record_fault.is)
    (sym c.is_cubes-in-Err-record_fault.ensures ∙ c.if-is_cubes-2.true)

pub returns : goal.returns
returns c =
    let sound = sym c.record_fault.ensures.value ∙ c.in_default.is in
    elim c.match-record_fault-2.branch [
      | in-Err-record_fault+else-is_cubes-2 w ↦
          no_cube_in_g _ _ _ _ _ sound _ (sym c.record_fault-2.ensures.value ∙ w.in-Err-record_fault.is) (sym w.is_cubes-in-Err-record_fault.ensures ∙ w.if-is_cubes-2.false)
      | in_default-record_fault w ↦ sound_in_g _ _ _ _ _ sound _ (sym c.record_fault-2.ensures.value ∙ w.in_default-record_fault.is)
    ]
