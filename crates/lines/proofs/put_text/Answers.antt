-- The answer's line is made first, to know its length; it is copied if there is room for both lines.
use Rattle.std.proofs.Common.{◌∙◌, sym, arith}
use Rattle.answers.proofs.Stores.{stored_with_room, stored_without_room}
use Rattle.lines.specs.Lines.{text}
use Rattle.lines.proofs.Texts.{hex_length, text_length, text_stored}
use Rattle.lines.proofs.put_text.Goals as goal

pub returns-then-out-needed-clause-leaves : goal.returns-then-out-needed-clause-leaves
returns-then-out-needed-clause-leaves c =
    let a = c.args in
    let long = text_length a.answer a.claim.now in
    let e = c.put_answer-len.ensures in
    record { returned = omega arith; slice = sym (stored_without_room (text a.answer a.claim.now) a.out.now (omega arith)) }

pub put_hex-requires : goal.put_hex-requires
put_hex-requires c = omega (arith, hex_length c.args.claim.now)

pub returns-clause-leaves : goal.returns-clause-leaves
returns-clause-leaves c =
    let a = c.args in
    let e = c.put_answer-len.ensures in
    let long = text_length a.answer a.claim.now in
    record {
      returned = omega arith;
      slice =
          text_stored a.answer a.claim.now _ _ a.out.now _ _ _ e.value e.upper_bound e.out_after c.put.ensures c.put_hex.ensures
          ∙ sym (stored_with_room (text a.answer a.claim.now) a.out.now (omega arith));
    }
