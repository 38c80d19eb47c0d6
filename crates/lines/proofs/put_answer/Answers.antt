-- Five numbers, each behind the one before; 37 bytes are enough for any five.
use Rattle.std.proofs.Common.{arith}
use Rattle.lines.proofs.Texts.{digits_most, answer_stored}
use Rattle.lines.proofs.put_answer.Goals as goal

pub returns : goal.returns
returns c =
    let d = digits_most c.args.answer (omega arith) (omega arith) (omega arith) (omega arith) (omega arith) in
    let e₁ = c.put_number-kind.ensures in
    let e₂ = c.put_number-record.ensures in
    let e₃ = c.put_number-place.ensures in
    let e₄ = c.put_number-pattern.ensures in
    let e₅ = c.put_number.ensures in
    let stored = answer_stored c.args.answer c.args.out.now _ _ _ _ _ _ _ _ _ _ e₁.value e₁.out_after e₂.value e₂.out_after e₃.value e₃.out_after e₄.value e₄.out_after e₅.value e₅.out_after in
    record { upper_bound = omega arith; value = stored.0; out_after = stored.1 }
