-- Both are sound, and have as many inputs.
use Rattle.std.proofs.Common.{◌∙◌, sym}
use Rattle.records.proofs.Frame.{accepted_by}
use Rattle.records.proofs.both.Goals as goal

pub invariant_of-result-3 : goal.invariant_of-result-3
invariant_of-result-3 c =
    record {
      accepted =
          accepted_by _ _ _ _ (λ i. (c.type_inv.f i).fits) (λ i. (c.type_inv.g i).fits)
          (sym c.record_fault.ensures.value ∙ c.in_default.is)
          (sym c.record_fault-2.ensures.value ∙ c.in_default-record_fault.is)
          c.if-f-g.false;
    }
