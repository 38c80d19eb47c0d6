-- A cube written as characters is read back: n input characters, whose masks are the cube's own. The idea: a mask is the only
-- number with its bits, and character i tells bit i of both.
use Prim.Native.Nat.{ℕ, zero, suc, ◌+◌, ◌^◌, ◌<◌}
use mathlib.Core.Path.{◌≡◌, refl, sym, ap, ◌∙◌, subst}
use mathlib.Core.Bool.{Bool, true, false, cond, ◌&&◌, ◌||◌}
use mathlib.Core.List.{[], ◌∷◌, map}
use mathlib.Core.Logic.{⊎_elim}
use native.Mathlib.Nat.{add-zero}
use native.Mathlib.Omega.{arith}
use borrow.Author.Tests.{eqb-true, eq-eqb}
use lib.Bits.{bit_and}
use lib.Dec.{eqb}
use lib.ListN.{length, get_or, length-map}
use Rattle.bits.specs.Bits.{has}
use Rattle.bits.proofs.Tests.{both, either}
use Rattle.bits.proofs.Bit.{has_and, has_zero}
use Rattle.bits.proofs.Mask.{mask_is}
use Rattle.rules.specs.Lists.{run, upto, each_in}
use Rattle.rules.proofs.Lists.{map_in, each_if}
use Rattle.terms.specs.Terms.{on_char, off_char, dash, is_input, is_output, well_formed, inputs_with, characters}

-- ---- input characters

-- what holds of each input character
pub input_cases : (Q : ℕ → Type 0) → Q off_char → Q on_char → Q dash → (c : ℕ) → is_input c ≡ true → Q c
input_cases Q low high free c e =
    ⊎_elim
    (λ (digit : eqb c off_char || eqb c on_char ≡ true).
    ⊎_elim (λ (h : eqb c off_char ≡ true). subst Q (sym (eqb-true _ _ h)) low)
    (λ (h : eqb c on_char ≡ true). subst Q (sym (eqb-true _ _ h)) high) (either (eqb c off_char) (eqb c on_char) digit))
    (λ (h : eqb c dash ≡ true). subst Q (sym (eqb-true _ _ h)) free)
    (either (eqb c off_char || eqb c on_char) (eqb c dash) e)

-- ---- a run of numbers, mapped

run_long : (a n : ℕ) → length (run a n) ≡ n
unfolding run
run_long a zero = refl
run_long a (suc n) = ap suc (run_long (suc a) n)

pub run_at : (f : ℕ → ℕ) (a n i d : ℕ) → i < n → get_or (map f (run a n)) i d ≡ f (a + i)
unfolding run
run_at f a zero i d h = absurd (omega (arith, h))
run_at f a (suc n) zero d h = ap f (sym (add-zero a))
run_at f a (suc n) (suc i) d h = run_at f (suc a) n i d (omega (arith, h)) ∙ ap f (omega arith)

-- ---- the characters of a cube

abbrev character : Bool → Bool → ℕ
character pos neg = cond pos on_char (cond neg off_char dash)

input_character : (pos neg : Bool) → is_input (character pos neg) ≡ true
input_character true neg = refl
input_character false true = refl
input_character false false = refl

module _ (n P N : ℕ) where
  pub characters_long : length (characters n P N) ≡ n
  characters_long = length-map (upto n) _ ∙ run_long 0 n

  pub characters_inputs : each_in is_input (characters n P N) ≡ true
  characters_inputs =
      each_if is_input _ (λ c i. let w = map_in _ c (upto n) i in ap is_input w.2 ∙ input_character (has P w.0) (has N w.0))

  -- a mask of the inputs with one character is a number that has their bits
  with_is : (c M : ℕ) → M < 2 ^ n → ((i : ℕ) → has M i ≡ eqb (character (has P i) (has N i)) c)
      → inputs_with c (characters n P N) ≡ M
  with_is c M h same =
      sym
      (mask_is (length (characters n P N)) (λ i. eqb (get_or (characters n P N) i 0) c) M
      (subst (λ (k : ℕ). M < 2 ^ k) (sym characters_long) h)
      (λ i l. same i ∙ ap (λ (k : ℕ). eqb k c)
      (sym (run_at _ 0 n i 0 (subst (λ (k : ℕ). i < k) characters_long l)
      ∙ ap (λ (k : ℕ). character (has P k) (has N k)) (omega arith)))))

  pub on_inputs : P < 2 ^ n → inputs_with on_char (characters n P N) ≡ P
  on_inputs h = with_is on_char P h (λ i. told (has P i) (has N i))
    where
      told : (pos neg : Bool) → pos ≡ eqb (character pos neg) on_char
      told true neg = refl
      told false true = refl
      told false false = refl

  pub off_inputs : N < 2 ^ n → bit_and P N ≡ 0 → inputs_with off_char (characters n P N) ≡ N
  off_inputs h apart =
      with_is off_char N h (λ i. told (has P i) (has N i) (sym (has_and P N i) ∙ ap (λ (x : ℕ). has x i) apart ∙ has_zero i))
    where
      told : (pos neg : Bool) → pos && neg ≡ false → neg ≡ eqb (character pos neg) off_char
      told true neg e = e
      told false true e = refl
      told false false e = refl

  -- with an output character they are a term
  pub characters_right : (out : ℕ) → is_output out ≡ true → well_formed n (characters n P N) ((out ∷ []) ∷ []) ≡ true
  unfolding well_formed
  characters_right out e = both (both (eq-eqb (length (characters n P N)) n characters_long) characters_inputs) e
