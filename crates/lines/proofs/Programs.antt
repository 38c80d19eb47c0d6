-- What the two programs print, put together from the parts of the input, the answer and what is shown of the lent buffer.
use Prim.Native.Nat.{ℕ, ◌≤◌, ◌<◌}
use mathlib.Core.Path.{◌≡◌, refl, sym, ap, ap₂, ◌∙◌}
use mathlib.Core.Bool.{Bool, true, false, cond}
use mathlib.Core.List.{List, [], append-nil}
use native.Mathlib.Omega.{arith}
use borrow.Author.Tests.{eqb-true, lt-ltb, le-ltb}
use lib.Dec.{eqb}
use lib.ListN.{length, take, length-take}
use Rattle.answers.specs.declared.Answer.{Answer}
use Rattle.answers.specs.Answers.{Delivered}
use Rattle.answers.proofs.Stores.{Stands, delivered_stands}
use Rattle.checker.specs.Checking.{checking}
use Rattle.matcher.specs.Matching.{first_agreeing, kind_found, claim_for, matching}
use Rattle.matcher.proofs.Exact.{matching_room, matching_read}
use Rattle.words.specs.Words.{line}
use Rattle.lines.specs.Lines.{answer_line, text, this_record, what_follows, match_text, match_lines, too_long, check_text, check_lines}

-- ---- the match program

module _ (f g before after : List ℕ) (answer : Answer) (long : 4096 ≡ length before) (d : Delivered (matching f g (length before)) (claim_for f g) before after answer) where
  answer_is : answer ≡ matching f g 4096
  answer_is = d.returned ∙ ap (matching f g) (sym long)

  stands : answer.code ≡ 0 → Stands (claim_for f g) before after answer.place
  stands = delivered_stands (matching f g (length before)) (kind_found (first_agreeing f g)) (claim_for f g) before after answer (λ z. matching_room f g (length before) (matching_read f g (length before) z)) d

  module _ (len : ℕ) (is : len ≡ cond (eqb answer.code 0) answer.place 0) where
    -- what is shown lies in the buffer
    pub shown_within : len ≤ length after
    shown_within = go (eqb answer.code 0) refl is
      where
        go : (t : Bool) → eqb answer.code 0 ≡ t → len ≡ cond t answer.place 0 → len ≤ length after
        go true q e =
            let s = stands (eqb-true answer.code 0 q) in
            omega (arith, e, s.long, ap length s.front, length-take answer.place after)
        go false q e = omega (arith, e)

    -- and is the claim, if code is 0
    pub shown_is : take len after ≡ cond (eqb (matching f g 4096).code 0) (claim_for f g) []
    shown_is = go (eqb answer.code 0) refl is ∙ ap (λ (a : Answer). cond (eqb a.code 0) (claim_for f g) []) answer_is
      where
        go : (t : Bool) → eqb answer.code 0 ≡ t → len ≡ cond t answer.place 0 → take len after ≡ cond (eqb answer.code 0) (claim_for f g) []
        go true q e = ap (λ (k : ℕ). take k after) e ∙ (stands (eqb-true answer.code 0 q)).front ∙ ap (λ (t : Bool). cond t (claim_for f g) []) (sym q)
        go false q e = ap (λ (k : ℕ). take k after) e ∙ ap (λ (t : Bool). cond t (claim_for f g) []) (sym q)

    pub match_printed : (input rest : List ℕ) → f ≡ this_record input → rest ≡ what_follows input → g ≡ this_record rest → text answer (take len after) ≡ match_lines input
    unfolding match_text match_lines
    match_printed input rest is_f is_rest is_g =
        ap₂ text answer_is shown_is
        ∙ ap₂ match_text is_f (is_g ∙ ap this_record is_rest)

-- ---- the check program

module _ (input rest f g claim : List ℕ) (is_f : f ≡ this_record input) (is_rest : rest ≡ what_follows input) (is_g : g ≡ this_record rest) (is_claim : claim ≡ what_follows rest) where
  parts : check_text f g claim ≡ check_lines input
  unfolding check_lines
  parts i = check_text (is_f i) ((is_g ∙ ap this_record is_rest) i) ((is_claim ∙ ap what_follows is_rest) i)

  pub check_refused : 49152 < length claim → too_long ≡ check_lines input
  unfolding check_text
  check_refused h = ap (λ (t : Bool). cond t too_long (answer_line (checking f g claim))) (sym (lt-ltb 49152 (length claim) h)) ∙ parts

  pub check_printed : (answer : Answer) → length claim ≤ 49152 → answer ≡ checking f g claim → text answer [] ≡ check_lines input
  unfolding check_text text line
  check_printed answer h is =
      append-nil (answer_line answer)
      ∙ ap answer_line is
      ∙ ap (λ (t : Bool). cond t too_long (answer_line (checking f g claim))) (sym (le-ltb 49152 (length claim) h))
      ∙ parts
