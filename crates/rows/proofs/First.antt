-- The answer names the first faulty line, and its code is the first in the request's order at that line. The idea: the walk
-- over the lines ends in one of three ways, at a faulty line, at an end without fault, or after the last line, and in each all
-- the lines before have no fault and are not the end (`walk`); every theorem here is one reading of those three ways.
use Prim.Native.Nat.{ℕ, zero, suc, ◌+◌, ◌≤◌, ◌<◌}
use mathlib.Core.Path.{◌≡◌, refl, sym, ap, ◌∙◌, subst}
use mathlib.Core.Bool.{Bool, true, false, cond, not, ◌&&◌, false≢true}
use mathlib.Core.List.{List, [], ◌∷◌, ◌++◌, map}
use mathlib.Core.Logic.{◌⊎◌, inl, inr, ⊎_elim}
use native.Mathlib.Nat.{eq-or-lt_of_le}
use native.Mathlib.Omega.{arith}
use lib.Dec.{leb}
use lib.ListN.{length, get_or, take, drop, drop_of_length-le}
use lib.Seq.{length-take-le, take-suc, drop-cons}
use Rattle.answers.specs.declared.Fault.{Fault}
use Rattle.answers.specs.Answers.{fault, sound}
use Rattle.answers.proofs.Faults.{chosen_elim}
use Rattle.bits.proofs.Tests.{below_or_not}
use Rattle.bits.proofs.Below.{below_suc}
use Rattle.rules.specs.Lists.{same}
use Rattle.words.specs.Words.{lines, value}
use Rattle.terms.specs.Terms.{Says, nothing, keyword, term, end, malformed, unknown, says, well_formed, dot_i}
use Rattle.rows.specs.Rows.{of_keyword, of_term, is_end, stands, told, complete, miscounted, line_code, first_faulty, table_fault, up_to_end}

-- ---- a line by its number from 0, its code after the lines before it, and whether the reading goes on behind it

abbrev pub line_at : List Says → ℕ → Says
line_at said k = get_or said k nothing

abbrev pub code_at : List Says → ℕ → ℕ
code_at said k = line_code (take k said) (line_at said k)

pub record Passed (said : List Says) (k : ℕ) : Type 0 where
  pub sound_line : code_at said k ≡ 0
  pub goes_on : is_end (line_at said k) ≡ false

abbrev pub AllPassed : List Says → ℕ → Type 0
AllPassed said k = (j : ℕ) → j < k → Passed said j

-- ---- the three ways in which the walk ends

module _ (said : List Says) (R : Fault → Type 0)
    (at_fault : (k : ℕ) → k < length said → AllPassed said k → (code_at said k ≡ 0 → ⊥) → R (fault (code_at said k) (k + 1)))
    (at_end : (k : ℕ) → k < length said → AllPassed said k → code_at said k ≡ 0 → is_end (line_at said k) ≡ true → R sound)
    (at_last : AllPassed said (length said) → R (fault 21 (length said + 1))) where
  from : (left k : ℕ) → left + k ≡ length said → AllPassed said k → R (first_faulty (take k said) (drop k said))
  unfolding first_faulty
  from zero k e before =
      subst (λ (rest : List Says). R (first_faulty (take k said) rest)) (sym (drop_of_length-le said {i = k} (omega (arith, e))))
      (subst (λ (m : ℕ). R (fault 21 (m + 1))) (sym (length-take-le k said (omega (arith, e)) ∙ omega (arith, e)))
      (at_last (subst (AllPassed said) (omega (arith, e)) before)))
  from (suc left) k e before =
      subst (λ (rest : List Says). R (first_faulty (take k said) rest)) (sym (drop-cons said k nothing there))
      (chosen_elim R (code_at said k) _ _
      (λ bad. subst (λ (m : ℕ). R (fault (code_at said k) (m + 1))) (sym (length-take-le k said (omega (arith, e))))
      (at_fault k there before bad))
      (λ good. next (is_end (line_at said k)) refl good (λ b. from left (suc k) (omega (arith, e)) b)))
    where
      there : k < length said
      there = omega (arith, e)

      next : (t : Bool) → is_end (line_at said k) ≡ t → code_at said k ≡ 0
          → (AllPassed said (suc k) → R (first_faulty (take (suc k) said) (drop (suc k) said)))
          → R (cond t sound (first_faulty (take k said ++ (line_at said k ∷ [])) (drop (suc k) said)))
      next true q good on = at_end k there before good q
      next false q good on =
          subst (λ (front : List Says). R (first_faulty front (drop (suc k) said))) (take-suc said k nothing there)
          (on (λ j h. ⊎_elim (λ (s : j ≡ k). subst (Passed said) (sym s) (record { sound_line = good; goes_on = q }))
          (λ (l : j < k). before j l) (below_suc h)))

  pub walk : R (first_faulty [] said)
  walk = from (length said) 0 (omega arith) (λ j h. absurd (omega (arith, h)))

-- ---- the answer to a text that is at fault: the first faulty line

pub record FirstFaulty (said : List Says) (code line : ℕ) : Type 0 where
  pub index : ℕ
  pub number : line ≡ index + 1
  pub within : index ≤ length said
  pub before : AllPassed said index
  pub here : ((index < length said) × (code_at said index ≡ code)) ⊎ ((index ≡ length said) × (code ≡ 21))

pub first_faulty_named : (text : List ℕ) → ((table_fault text).code ≡ 0 → ⊥)
    → FirstFaulty (map says (lines text)) (table_fault text).code (table_fault text).place
unfolding table_fault
first_faulty_named text = named
  where
    said : List Says
    said = map says (lines text)

    Named : Fault → Type 0
    Named f = (f.code ≡ 0 → ⊥) → FirstFaulty said f.code f.place

    named : Named (first_faulty [] said)
    named =
        walk said Named
        (λ k there passed _ _. record {
          index = k;
          number = refl;
          within = omega (arith, there);
          before = passed;
          here = inl (there, refl);
        })
        (λ k there passed good ends bad. absurd (bad refl))
        (λ passed _. record {
          index = length said;
          number = refl;
          within = omega arith;
          before = passed;
          here = inr (refl, refl);
        })

-- ---- a text without fault: an end without fault, before which no line is at fault

pub record Whole (said : List Says) : Type 0 where
  pub index : ℕ
  pub within : index < length said
  pub before : AllPassed said index
  pub sound_end : code_at said index ≡ 0
  pub ends : is_end (line_at said index) ≡ true

pub whole_if : (text : List ℕ) → (table_fault text).code ≡ 0 → Whole (map says (lines text))
unfolding table_fault
whole_if text =
    walk (map says (lines text)) (λ (f : Fault). f.code ≡ 0 → Whole (map says (lines text)))
    (λ k there passed bad z. absurd (bad z))
    (λ k there passed good ends _. record { index = k; within = there; before = passed; sound_end = good; ends = ends })
    (λ passed z. absurd (omega (arith, z)))

pub whole_sound : (text : List ℕ) → Whole (map says (lines text)) → table_fault text ≡ sound
unfolding table_fault
whole_sound text w =
    walk said (λ (f : Fault). f ≡ sound) at_fault (λ k there passed good ends. refl)
    (λ passed. absurd (early (passed w.index w.within)))
  where
    said : List Says
    said = map says (lines text)

    early : Passed said w.index → ⊥
    early p = false≢true (sym p.goes_on ∙ w.ends)

    at_fault : (k : ℕ) → k < length said → AllPassed said k → (code_at said k ≡ 0 → ⊥) → fault (code_at said k) (k + 1) ≡ sound
    at_fault k there passed bad =
        absurd
        (⊎_elim (λ (l : k < w.index). bad (w.before k l).sound_line)
        (λ (l : w.index ≤ k). ⊎_elim (λ (s : w.index ≡ k). bad (subst (λ (j : ℕ). code_at said j ≡ 0) s w.sound_end))
        (λ (m : w.index < k). early (passed w.index m)) (eq-or-lt_of_le l))
        (below_or_not k w.index))

-- what the lines before that end say is what the record is made of
front_is : (said : List Says) (k : ℕ) → k < length said → ((j : ℕ) → j < k → is_end (line_at said j) ≡ false)
    → is_end (line_at said k) ≡ true → up_to_end said ≡ take k said
unfolding up_to_end
front_is [] k h f e = absurd (omega (arith, h))
front_is (s ∷ said) zero h f e = simp e
front_is (s ∷ said) (suc k) h f e =
    simp (f 0 (omega arith))
    (ap (λ (l : List Says). s ∷ l) (front_is said k (omega (arith, h)) (λ j l. f (suc j) (omega (arith, l))) e))

pub whole_front : (said : List Says) (w : Whole said) → up_to_end said ≡ take w.index said
whole_front said w = front_is said w.index w.within (λ j h. (w.before j h).goes_on) w.ends

-- ---- the code of one line, by the request's four tests, each by itself

abbrev pub is_term : Says → Bool
is_term s = of_term (λ w ws. true) false s

-- 20: a malformed line, or a repeated keyword
unfoldable pub asks_20 : List Says → Says → Bool
asks_20 said nothing = false
asks_20 said (keyword name v) = stands name said
asks_20 said (term w ws) = not (well_formed (told dot_i said) w ws)
asks_20 said end = false
asks_20 said malformed = true
asks_20 said unknown = false

-- 21: an unknown keyword, or one missing at a term or at the end
unfoldable pub asks_21 : List Says → Says → Bool
asks_21 said nothing = false
asks_21 said (keyword name v) = false
asks_21 said (term w ws) = not (complete said)
asks_21 said end = not (complete said)
asks_21 said malformed = false
asks_21 said unknown = true

-- 3: an `.i` outside 1 to 8, repeated or not
unfoldable pub asks_3 : Says → Bool
asks_3 s = of_keyword (λ name v. same name dot_i && not (leb 1 (value v) && leb (value v) 8)) false s

-- 22: at the end, the term count differs
unfoldable pub asks_22 : List Says → Says → Bool
asks_22 said s = is_end s && miscounted said

-- in this order, but 21 before 20 at a term
abbrev pub first_asked : List Says → Says → ℕ
first_asked said s =
    cond (is_term s)
    (cond (asks_21 said s) 21 (cond (asks_20 said s) 20 0))
    (cond (asks_20 said s) 20 (cond (asks_21 said s) 21 (cond (asks_3 s) 3 (cond (asks_22 said s) 22 0))))

pub code_in_order : (said : List Says) (s : Says) → line_code said s ≡ first_asked said s
unfolding line_code asks_20 asks_21 asks_3 asks_22 of_keyword of_term is_end
code_in_order said nothing = refl
code_in_order said (keyword name v) = refl
code_in_order said (term w ws) = turned (complete said) (well_formed (told dot_i said) w ws)
  where
    turned : (t u : Bool) → ◌≡◌ {A = ℕ} (cond t (cond u 0 20) 21) (cond (not t) 21 (cond (not u) 20 0))
    turned true true = refl
    turned true false = refl
    turned false u = refl
code_in_order said end =
    elim (complete said) as
    (λ t. ◌≡◌ {A = ℕ} (cond t (cond (miscounted said) 22 0) 21) (cond (not t) 21 (cond (miscounted said) 22 0)))
    [ true ↦ refl | false ↦ refl ]
code_in_order said malformed = refl
code_in_order said unknown = refl
