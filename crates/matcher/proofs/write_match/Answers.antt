-- Too short for the claim, the buffer left alone; or the header is stored, and then the choices: the low bytes of their number.
use Rattle.std.proofs.Common.{ℕ, List, [], ◌∷◌, refl, sym, ap, ◌∙◌, arith}
use Rattle.std.proofs.lemmas.List.Edits.{sets}
use Rattle.answers.proofs.Stores.{sets_join, delivered_short, delivered_whole}
use Rattle.partial.specs.Partial.{as_bytes}
use Rattle.matcher.proofs.LowBytes.{low_last}
use Rattle.matcher.proofs.write_match.Goals as goal

pub returns-then-out-needed : goal.returns-then-out-needed
returns-then-out-needed c = delivered_short _ 1 _ _ _ refl _ c.if-out-needed.true c.refused.ensures

pub returns : goal.returns
returns c =
    let a = c.args in
    let last = sym (low_last c.loop-at.out _ _ _ (omega arith)) ∙ c.loop-at.invariant in
    let whole = ap (λ (k : ℕ). sets c.put.new.out 4 (as_bytes k a.choices)) {y = a.n} (omega arith) in
    let header = ap (λ (l : List ℕ). sets l 4 (as_bytes a.n a.choices)) c.put.ensures in
    delivered_whole _ 1 _ _ _ refl _ c.if-out-needed.false c.accepted.ensures _
    (last ∙ whole ∙ header ∙ sets_join a.out.now (0x4D ∷ 0x54 ∷ a.n ∷ a.q ∷ []) (as_bytes a.n a.choices) 0)
