-- Header, on list and off list, stored one after the other.
use Rattle.std.proofs.Common.{ℕ, List, [], ◌∷◌, ◌+◌, ◌/◌, ◌∙◌, ap, refl, length}
use Rattle.std.proofs.lemmas.List.Edits.{sets}
use Rattle.writer.specs.Writing.{record_bytes}
use Rattle.answers.proofs.Stores.{three_stored}
use Rattle.writer.proofs.store.Goals as goal

pub returns : goal.returns
unfolding record_bytes
returns c =
    let a = c.args in
    let on = a.on.now in
    let off = a.off.now in
    c.put-3.ensures
    ∙ ap (λ (l : List ℕ). sets l (5 + length on) off) (c.put-2.ensures ∙ ap (λ (l : List ℕ). sets l 5 on) c.put.ensures)
    ∙ three_stored a.out.now (0x46 ∷ 0x4E ∷ a.n ∷ length on / 2 ∷ length off / 2 ∷ []) on off 5 refl
