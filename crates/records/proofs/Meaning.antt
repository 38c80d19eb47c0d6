-- What the answers mean on patterns: code 7 is given exactly when some pattern is both on and off, and the summary's numbers
-- are counts within their bounds.
use Prim.Native.Nat.{ℕ, ◌+◌, ◌^◌, ◌≤◌, ◌<◌}
use mathlib.Core.Path.{◌≡◌, refl, sym, ap, ◌∙◌}
use mathlib.Core.Bool.{Bool, true, false, cond, not, ◌&&◌, ◌||◌, false≢true}
use mathlib.Core.List.{List, [], ◌∷◌}
use mathlib.Core.Logic.{⊎_elim}
use borrow.Author.Tests.{eqb-false, le-leb}
use lib.Dec.{leb, eqb}
use Rattle.bits.specs.Bits.{has, any}
use Rattle.bits.proofs.Tests.{both, both_left, both_right, either, below_or_not}
use Rattle.bits.proofs.Below.{any_at, any_if, count_apart, count_under}
use Rattle.cubes.specs.Cubes.{cube_names, cubes_share, some_cube, some_holds, open_at, patterns_held, inputs_used}
use Rattle.cubes.proofs.Lists.{Each, each_some}
use Rattle.answers.specs.declared.Fault.{Fault}
use Rattle.answers.specs.Answers.{fault_at}
use Rattle.records.specs.Records.{inputs, cubes_at, on_list, off_list, cube_code, clash_code, clash_pattern, first_fault, header_fault, cubes_fault, clash_fault, record_fault}
use Rattle.records.proofs.Frame.{record_sound, ends_at_clash}
use Rattle.records.proofs.Cubes.{first_each, on_each, off_each, clash_means}
use Rattle.records.proofs.Places.{record_cases, header_codes, first_codes, cube_codes}

-- ---- code 7

-- a pattern of the record's inputs that is both on and off
abbrev pub Both : List ℕ → Type 0
Both s = (x : ℕ) × (x < 2 ^ inputs s) × (some_holds (on_list s) x ≡ true) × (some_holds (off_list s) x ≡ true)

-- some cube of the list has code 7 exactly when the walk finds it
module _ (t : ℕ → ℕ → Bool) where
  abbrev seven : ℕ → ℕ → ℕ
  seven P N = cond (t P N) 7 0

  seven_some : (pattern : ℕ → ℕ → ℕ) (l : List ℕ) (at : ℕ) → (first_fault seven pattern l at).code ≡ cond (some_cube t l) 7 0
  unfolding first_fault some_cube
  seven_some pattern [] at = refl
  seven_some pattern (P ∷ []) at = refl
  seven_some pattern (P ∷ N ∷ l) at =
      elim (t P N) as (λ b. (cond (eqb (cond b 7 0) 0) (first_fault seven pattern l (at + 2)) (fault_at (cond b 7 0) at (pattern P N))).code ≡ cond (b || some_cube t l) 7 0) [
        | true ↦ refl
        | false ↦ seven_some pattern l (at + 2)
      ]

-- each cube of an accepted record has no code
abbrev pub Coded : ℕ → List ℕ → Type 0
Coded n l = Each (λ P N. cube_code n P N ≡ 0) l

pub each_on : (s : List ℕ) → (record_fault s).code ≡ 0 → Coded (inputs s) (on_list s)
each_on s e = on_each _ s (first_each _ _ _ _ (record_sound s e).cubes)

pub each_off : (s : List ℕ) → (record_fault s).code ≡ 0 → Coded (inputs s) (off_list s)
each_off s e = off_each _ s (first_each _ _ _ _ (record_sound s e).cubes)

-- the code of the last part of the reading, on patterns
clash_code_is : (s : List ℕ) → (clash_fault s).code ≡ cond (any (2 ^ inputs s) (λ x. some_holds (on_list s) x && some_holds (off_list s) x)) 7 0
unfolding clash_code
clash_code_is s =
    seven_some (λ P N. some_cube (cubes_share (inputs s) P N) (off_list s)) (clash_pattern (inputs s) (off_list s)) (on_list s) (cubes_at s)
    ∙ ap {B = ℕ} (λ (b : Bool). cond b 7 0) (clash_means (inputs s) (on_list s) (off_list s))

both_on_off : List ℕ → ℕ → Bool
both_on_off s x = some_holds (on_list s) x && some_holds (off_list s) x

-- code 7 says that some pattern is both on and off
pub seven_both : (s : List ℕ) → (record_fault s).code ≡ 7 → Both s
unfolding both_on_off
seven_both s =
    record_cases (λ (f : Fault). f.code ≡ 7 → Both s) s
    (λ e. absurd (header_codes (λ (c : ℕ). c ≡ 7 → ⊥) (eqb-false 0 7 refl) s (eqb-false 1 7 refl) (eqb-false 2 7 refl) (eqb-false 3 7 refl) (eqb-false 4 7 refl) (eqb-false 8 7 refl) e))
    (λ _ e. absurd (first_codes (λ (c : ℕ). c ≡ 7 → ⊥) (eqb-false 0 7 refl) _ _ _ _ (λ P N. cube_codes (λ (c : ℕ). c ≡ 7 → ⊥) (eqb-false 0 7 refl) _ P N (eqb-false 5 7 refl) (eqb-false 6 7 refl)) e))
    (λ _ e.
    let w = any_at (both_on_off s) (2 ^ inputs s) (found _ (sym (clash_code_is s) ∙ e)) in
    let on = some_holds (on_list s) w.0 in
    let off = some_holds (off_list s) w.0 in
    (w.0, w.1, both_left on off w.2, both_right on off w.2))
  where
    found : (b : Bool) → ◌≡◌ {A = ℕ} (cond b 7 0) 7 → b ≡ true
    found true e = refl
    found false e = absurd (eqb-false 0 7 refl e)

-- and where the header and each cube are right, such a pattern gives it
pub both_seven : (s : List ℕ) → (header_fault s).code ≡ 0 → (cubes_fault s).code ≡ 0 → Both s → (record_fault s).code ≡ 7
unfolding both_on_off
both_seven s h c w =
    ap (λ (f : Fault). f.code) (ends_at_clash s h c) ∙ clash_code_is s
    ∙ ap {B = ℕ} (λ (b : Bool). cond b 7 0) (any_if (both_on_off s) (2 ^ inputs s) w.0 w.1 (both w.2 w.3))

-- an accepted record has none: no pattern is both on and off
pub accepted_apart : (s : List ℕ) → (record_fault s).code ≡ 0 → Both s → ⊥
unfolding both_on_off
accepted_apart s e w =
    eqb-false 7 0 refl
    (sym (ap {B = ℕ} (λ (b : Bool). cond b 7 0) (any_if (both_on_off s) (2 ^ inputs s) w.0 w.1 (both w.2 w.3))) ∙ sym (clash_code_is s) ∙ (record_sound s e).apart)

-- so each of its patterns is exactly one of on, off and open: open is never off
pub exactly_one : (s : List ℕ) → (record_fault s).code ≡ 0 → (x : ℕ) → x < 2 ^ inputs s
    → cond (some_holds (on_list s) x) 1 0 + cond (some_holds (off_list s) x) 1 0 + cond (open_at (on_list s) (off_list s) x) 1 0 ≡ 1
exactly_one s e x h = one (some_holds (on_list s) x) (some_holds (off_list s) x) (λ p q. accepted_apart s e (x, h, p, q))
  where
    one : (on off : Bool) → (on ≡ true → off ≡ true → ⊥) → cond on 1 0 + cond off 1 0 + cond (not on && not off) 1 0 ≡ 1
    one true true f = absurd (f refl refl)
    one true false f = refl
    one false true f = refl
    one false false f = refl

-- ---- the summary's bounds

-- on and off patterns together are no more than there are patterns
pub patterns_bound : (s : List ℕ) → (record_fault s).code ≡ 0 → patterns_held (inputs s) (on_list s) + patterns_held (inputs s) (off_list s) ≤ 2 ^ inputs s
unfolding patterns_held
patterns_bound s e = count_apart (some_holds (on_list s)) (some_holds (off_list s)) (2 ^ inputs s) (λ x h p q. accepted_apart s e (x, h, p, q))

-- a cube with no code names inputs below n alone
code_names : (n P N i : ℕ) → i < 8 → cube_code n P N ≡ 0 → cube_names P N i ≡ true → i < n
unfolding cube_code
code_names n P N i h e names =
    ⊎_elim (λ below. below)
    (λ (above : n ≤ i). absurd (five _ (any 8 (λ i. has P i && has N i)) (any_if (λ i. leb n i && cube_names P N i) 8 i h (both (le-leb _ _ above) names)) e))
    (below_or_not i n)
  where
    five : (b c : Bool) → b ≡ true → ◌≡◌ {A = ℕ} (cond b 5 (cond c 6 0)) 0 → ⊥
    five true c p q = eqb-false 5 0 refl q
    five false c p q = false≢true p

-- inputs in use are no more than there are inputs
pub inputs_bound : (s : List ℕ) → (record_fault s).code ≡ 0 → inputs_used (on_list s) (off_list s) ≤ inputs s
unfolding inputs_used
inputs_bound s e =
    count_under _ 8 (inputs s)
    (λ i h used.
    ⊎_elim
    (λ (in_on : named i (on_list s) ≡ true). each_some _ (i < inputs s) _ (λ P N. code_names (inputs s) P N i h) (on_list s) (each_on s e) in_on)
    (λ (in_off : named i (off_list s) ≡ true). each_some _ (i < inputs s) _ (λ P N. code_names (inputs s) P N i h) (off_list s) (each_off s e) in_off)
    (either (named i (on_list s)) (named i (off_list s)) used))
  where
    named : ℕ → List ℕ → Bool
    named i l = some_cube (λ P N. cube_names P N i) l
