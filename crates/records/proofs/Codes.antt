-- The code of one cube, by masks: the inputs at or above n are what a shift by n leaves, and the inputs in both masks are
-- what `&` leaves.
use Prim.Native.Nat.{ℕ, ◌+◌, ◌-◌, ◌/◌, ◌^◌, ◌≤◌, ◌<◌}
use mathlib.Core.Path.{◌≡◌, refl, sym, ap, ◌∙◌, subst}
use mathlib.Core.Bool.{Bool, true, false, not, ◌&&◌}
use mathlib.Core.Logic.{⊎_elim}
use borrow.Author.Tests.{leb-true, le-leb, eq-eqb, ne_eqb, eqb-true, eqb-false}
use native.Mathlib.Nat.{lt_of_le_of_lt, le_trans, le_of_eq, one-mul, div-le_self, div-lt_iff_lt-mul}
use native.Mathlib.Omega.{arith}
use lib.Bits.{bit_and, bit_or, and_le_l, and_le_r, or_lt, or_comm, or_add_and}
use lib.Dec.{leb, eqb}
use lib.Pow.{pow_pos}
use Rattle.bits.specs.Bits.{bit, has, any}
use Rattle.bits.proofs.Tests.{both, both_left, both_right, same_test, below_or_not}
use Rattle.bits.proofs.Below.{any_at, any_if, any_same}
use Rattle.bits.proofs.Bit.{bit_shr, bit_above, has_or, has_and, any_bit}
use Rattle.cubes.specs.Cubes.{cube_names}
use Rattle.records.specs.Records.{cube_code}

-- some bit of x at or above n is 1 exactly when x shifted by n is above 0
beyond : (n x : ℕ) → x < 2 ^ 8 → any 8 (λ i. leb n i && has x i) ≡ not (eqb (x / 2 ^ n) 0)
beyond n x h = same_test _ _ forth back ∙ any_bit 8 (x / 2 ^ n) (lt_of_le_of_lt (div-le_self x (2 ^ n)) h)
  where
    forth : any 8 (λ i. leb n i && has x i) ≡ true → any 8 (has (x / 2 ^ n)) ≡ true
    forth e =
        let w = any_at (λ i. leb n i && has x i) 8 e in
        let i = w.0 in
        let up : n ≤ i = leb-true _ _ (both_left (leb n i) (has x i) w.2) in
        any_if (has (x / 2 ^ n)) 8 (i - n) (omega (arith, w.1))
        (ap (λ (b : ℕ). eqb b 1) (bit_shr (i - n) n x ∙ ap (λ (k : ℕ). bit k x) (omega arith)) ∙ both_right (leb n i) (has x i) w.2)

    back : any 8 (has (x / 2 ^ n)) ≡ true → any 8 (λ i. leb n i && has x i) ≡ true
    back e =
        let w = any_at (has (x / 2 ^ n)) 8 e in
        let k = w.0 in
        let one : bit (n + k) x ≡ 1 = sym (bit_shr k n x) ∙ eqb-true _ _ w.2 in
        ⊎_elim
        (λ (low : n + k < 8). any_if (λ i. leb n i && has x i) 8 (n + k) low (both (le-leb n (n + k) (omega arith)) (eq-eqb _ _ one)))
        (λ (high : 8 ≤ n + k). absurd (omega (arith, bit_above (n + k) 8 h high)))
        (below_or_not (n + k) 8)

quotient_zero : (x n : ℕ) → x / 2 ^ n ≡ 0 → x < 2 ^ n
quotient_zero x n e = subst (λ (m : ℕ). x < m) (one-mul (2 ^ n)) ((div-lt_iff_lt-mul (pow_pos n)).0 (omega (arith, e)))

or_ge : (a b : ℕ) → a ≤ bit_or a b
or_ge a b = omega (arith, or_add_and a b, and_le_r a b)

-- a cube of bytes that names only inputs below n, and none in both masks
pub record Clean (n P N : ℕ) : Type 0 where
  pub pos_byte : P < 2 ^ 8
  pub neg_byte : N < 2 ^ 8
  pub pos : P < 2 ^ n
  pub neg : N < 2 ^ n
  pub apart : bit_and P N ≡ 0

module _ (n P N : ℕ) (p : P < 2 ^ 8) (m : N < 2 ^ 8) where
  names_beyond : any 8 (λ i. leb n i && cube_names P N i) ≡ not (eqb (bit_or P N / 2 ^ n) 0)
  names_beyond =
      any_same _ _ 8 (λ i h. ap (λ (t : Bool). leb n i && t) (sym (has_or P N i))) ∙ beyond n (bit_or P N) (or_lt 8 P N p m)

  in_both : any 8 (λ i. has P i && has N i) ≡ not (eqb (bit_and P N) 0)
  in_both = any_same _ _ 8 (λ i h. sym (has_and P N i)) ∙ any_bit 8 (bit_and P N) (lt_of_le_of_lt (and_le_l P N) p)

  -- the three cases of a cube's code, by masks
  pub code_five : (bit_or P N / 2 ^ n ≡ 0 → ⊥) → cube_code n P N ≡ 5
  unfolding cube_code
  code_five h = simp (names_beyond, ne_eqb _ _ h)

  pub code_six : bit_or P N / 2 ^ n ≡ 0 → (bit_and P N ≡ 0 → ⊥) → cube_code n P N ≡ 6
  unfolding cube_code
  code_six h k = simp (names_beyond, in_both, eq-eqb _ _ h, ne_eqb _ _ k)

  pub code_none : bit_or P N / 2 ^ n ≡ 0 → bit_and P N ≡ 0 → cube_code n P N ≡ 0
  unfolding cube_code
  code_none h k = simp (names_beyond, in_both, eq-eqb _ _ h, eq-eqb _ _ k)

  pub code_clean : cube_code n P N ≡ 0 → Clean n P N
  code_clean e = go (eqb (bit_or P N / 2 ^ n) 0) (eqb (bit_and P N) 0) refl refl
    where
      go : (t u : Bool) → eqb (bit_or P N / 2 ^ n) 0 ≡ t → eqb (bit_and P N) 0 ≡ u → Clean n P N
      go true true below_n q =
          let below : bit_or P N < 2 ^ n = quotient_zero _ n (eqb-true _ _ below_n) in
          record {
            pos_byte = p;
            neg_byte = m;
            pos = lt_of_le_of_lt (or_ge P N) below;
            neg = lt_of_le_of_lt (le_trans (or_ge N P) (le_of_eq (or_comm N P))) below;
            apart = eqb-true _ _ q;
          }
      go true false p q = absurd (eqb-false 6 0 refl (sym (code_six (eqb-true _ _ p) (eqb-false _ _ q)) ∙ e))
      go false u p q = absurd (eqb-false 5 0 refl (sym (code_five (eqb-false _ _ p)) ∙ e))
