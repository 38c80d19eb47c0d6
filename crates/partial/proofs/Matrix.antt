-- A pair tested on the matrix of choices. The idea: byte i of `bits` has the bit of the input of g that serves input i; laid over
-- the inputs of g at which the literal of input i is opposed, some bit stays exactly where the literal separates the pair.
use Prim.Native.Nat.{ℕ, zero, suc, ◌+◌, ◌*◌, ◌/◌, ◌%◌, ◌^◌, ◌≤◌, ◌<◌}
use mathlib.Core.Path.{◌≡◌, refl, sym, ap, ap₂, ◌∙◌}
use mathlib.Core.Bool.{Bool, true, false, cond, not, ◌&&◌, ◌||◌, xor, and_assoc, and_comm}
use mathlib.Core.List.{List}
use native.Mathlib.Nat.{le_trans, lt_of_le_of_lt, lt_of_lt_of_le}
use native.Mathlib.Omega.{arith}
use borrow.Author.Tests.{ltb-true, lt-ltb, eqb-true, eq-eqb}
use lib.Bits.{bit_and, bit_or, bit_xor, xor_comm, and_le_r, and_le_l}
use lib.Dec.{ltb, eqb}
use lib.Pow.{pow_mono}
use lib.ListN.{length, get_or}
use Rattle.bits.specs.Bits.{has, mask, any}
use Rattle.bits.proofs.Tests.{both, both_left, both_right, same_test}
use Rattle.bits.proofs.Below.{any_at, any_if, any_add, any_never, any_same, any_under}
use Rattle.bits.proofs.Bit.{has_or, has_and, has_xor, any_bit}
use Rattle.bits.proofs.Mask.{mask_lt, mask_has, mask_at}
use Rattle.cubes.specs.Cubes.{cube_names}
use Rattle.wirings.specs.Wirings.{input_of, inverted}
use Rattle.wirings.specs.Pairs.{asks_one, opposed, separates, unplaced, unused, unplaced_literal, unused_literal}
use Rattle.wirings.proofs.Choices.{placed_input}
use Rattle.partial.specs.declared.Masks.{Masks}
use Rattle.partial.specs.Partial.{inverts, serves, prefix, Formed}
use Rattle.partial.proofs.Standing.{placed_within, stands_unplaced, stands_free, stands_inverted, stands_bits}

-- ---- tests row by row

-- in m rows of eight
any_rows : (p : ℕ → Bool) (m : ℕ) → any (8 * m) p ≡ any m (λ i. any 8 (λ j. p (8 * i + j)))
unfolding any
any_rows p zero = refl
any_rows p (suc m) =
    let more : 8 * suc m ≡ 8 * m + 8 = omega arith in
    ap (λ (k : ℕ). any k p) more ∙ any_add p (8 * m) 8 ∙ ap (λ (t : Bool). t || any 8 (λ j. p (8 * m + j))) (any_rows p m)

-- in a row that counts or not, at one place alone
any_place : (L : Bool) (a : ℕ) (t : ℕ → Bool) (m : ℕ) → (L ≡ true → a < m) → any m (λ j. (L && eqb j a) && t j) ≡ L && t a
any_place false a t m inside = any_never m
any_place true a t m inside =
    same_test (any m (λ j. eqb j a && t j)) (t a)
    (λ e.
    let x = any_at (λ j. eqb j a && t j) m e in
    ap t (sym (eqb-true x.0 a (both_left (eqb x.0 a) (t x.0) x.2))) ∙ both_right (eqb x.0 a) (t x.0) x.2)
    (λ e. any_if (λ j. eqb j a && t j) m a (inside refl) (both (eq-eqb a a refl) e))

-- ---- the literals that wait: on an unplaced input of f, and on an unused input of g

-- a test of the inputs in a mask
pub in_mask : (t u : ℕ → Bool) (n : ℕ) → n ≤ 8 → any 8 (λ j. has (mask n t) j && u j) ≡ any n (λ j. t j && u j)
in_mask t u n h =
    any_same _ _ 8 (λ j l. ap (λ (b : Bool). b && u j) (mask_at n t j) ∙ and_assoc (ltb j n) (t j) (u j)) ∙ any_under (λ j. t j && u j) n 8 h

-- whether the cube has a literal on such an input
named_in : (t : ℕ → Bool) (n : ℕ) → n ≤ 8 → (m : ℕ) → m ≡ mask n t → (P N : ℕ) → not (eqb (bit_and (bit_or P N) m) 0) ≡ any n (λ i. t i && cube_names P N i)
named_in t n few m is P N =
    let small = lt_of_lt_of_le (mask_lt n t) (pow_mono few) in
    ap (λ (u : ℕ). not (eqb (bit_and (bit_or P N) u) 0)) is
    ∙ sym (any_bit 8 (bit_and (bit_or P N) (mask n t)) (lt_of_le_of_lt (and_le_r (bit_or P N) (mask n t)) small))
    ∙ any_same _ _ 8 (λ i l. has_and (bit_or P N) (mask n t) i ∙ and_comm (has (bit_or P N) i) (has (mask n t) i) ∙ ap (λ (b : Bool). has (mask n t) i && b) (has_or P N i))
    ∙ in_mask t (cube_names P N) n few

-- ---- the literals that are placed

-- an inverted choice changes the side of its literal
side_turned : (p n t : Bool) → xor p (xor p n && t) ≡ cond t n p
unfolding xor
side_turned true true true = refl
side_turned true true false = refl
side_turned true false true = refl
side_turned true false false = refl
side_turned false true true = refl
side_turned false true false = refl
side_turned false false true = refl
side_turned false false false = refl

module _ (r : Masks) (s : Formed r) where
  abbrev w : List ℕ
  w = prefix r

  pub within : length w ≤ 8
  within = le_trans (placed_within r.n s.few w s.allowed) s.few

  -- what the masks say of input i: which input of g serves it, and whether its choice is inverted
  pub served : (i j : ℕ) → i < 8 → j < 8 → has r.bits (8 * i + j) ≡ ltb i (length w) && eqb j (input_of (get_or w i 0))
  served i j h l =
      let byte : (8 * i + j) / 8 ≡ i = omega arith in
      let place : (8 * i + j) % 8 ≡ j = omega arith in
      ap (λ (m : ℕ). has m (8 * i + j)) (stands_bits r r.n w s) ∙ mask_has 64 (serves w) (8 * i + j) (omega arith)
      ∙ ap₂ (λ (i j : ℕ). ltb i (length w) && eqb j (input_of (get_or w i 0))) byte place

  marked : (i : ℕ) → i < length w → has r.inverted i ≡ inverted (get_or w i 0)
  marked i h =
      ap (λ (m : ℕ). has m i) (stands_inverted r r.n w s) ∙ mask_has 8 (inverts w) i (lt_of_lt_of_le h within) ∙ ap (λ (t : Bool). t && inverted (get_or w i 0)) (lt-ltb i (length w) h)

  module _ (P N : ℕ) where
    -- whether the cube has a literal that waits, on either side
    pub waits : not (eqb (bit_and (bit_or P N) r.unplaced) 0) ≡ unplaced_literal r.n w P N
    waits = named_in (unplaced w) r.n s.few r.unplaced (stands_unplaced r r.n w s) P N

    pub awaits : not (eqb (bit_and (bit_or P N) r.free) 0) ≡ unused_literal r.n w P N
    awaits = named_in (unused w) r.n s.few r.free (stands_free r r.n w s) P N

    -- the inputs of f whose literal asks for 1
    abbrev pub asking : ℕ
    asking = bit_xor P (bit_and (bit_xor P N) r.inverted)

    pub asked : (i : ℕ) → i < length w → has asking i ≡ asks_one (get_or w i 0) P N i
    asked i h =
        has_xor P (bit_and (bit_xor P N) r.inverted) i
        ∙ ap (xor (has P i)) (has_and (bit_xor P N) r.inverted i ∙ ap₂ ◌&&◌ (has_xor P N i) (marked i h))
        ∙ side_turned (has P i) (has N i) (inverted (get_or w i 0))

  -- ---- a placed literal separates the pair

  module _ (P N P' N' : ℕ) where
    abbrev turned : ℕ
    turned = bit_and (bit_xor P N) r.inverted

    -- at input i, the inputs of g at which its literal is opposed
    abbrev against_row : ℕ → ℕ → Bool
    against_row i j = has (bit_xor P turned) i && has N' j || has (bit_xor N turned) i && has P' j

    row_opposed : (i : ℕ) → i < length w → against_row i (input_of (get_or w i 0)) ≡ opposed (get_or w i 0) P N P' N' i
    row_opposed i h =
        let zeros = ap (λ (m : ℕ). has (bit_xor N (bit_and m r.inverted)) i) (xor_comm P N) ∙ asked N P i h in
        ap₂ (λ (a b : Bool). a && has N' (input_of (get_or w i 0)) || b && has P' (input_of (get_or w i 0))) (asked P N i h) zeros

    module _ (A B : ℕ) (ones : A ≡ mask 64 (λ k. has (bit_xor P turned) (k / 8) && has N' (k % 8))) (zeros : B ≡ mask 64 (λ k. has (bit_xor N turned) (k / 8) && has P' (k % 8))) where
      abbrev met : ℕ
      met = bit_and r.bits (bit_or A B)

      met_lt : met < 2 ^ 64
      met_lt = lt_of_le_of_lt (and_le_l r.bits (bit_or A B)) (omega (arith, stands_bits r r.n w s, mask_lt 64 (serves w)))

      met_has : (i j : ℕ) → i < 8 → j < 8 → has met (8 * i + j) ≡ (ltb i (length w) && eqb j (input_of (get_or w i 0))) && against_row i j
      met_has i j h l =
          let byte : (8 * i + j) / 8 ≡ i = omega arith in
          let place : (8 * i + j) % 8 ≡ j = omega arith in
          let side : (m a b : ℕ) → m ≡ mask 64 (λ k. has a (k / 8) && has b (k % 8)) → has m (8 * i + j) ≡ has a i && has b j = λ m a b is.
          ap (λ (m : ℕ). has m (8 * i + j)) is ∙ mask_has 64 (λ k. has a (k / 8) && has b (k % 8)) (8 * i + j) (omega arith) ∙ ap₂ (λ (i j : ℕ). has a i && has b j) byte place in
          has_and r.bits (bit_or A B) (8 * i + j) ∙ ap₂ ◌&&◌ (served i j h l) (has_or A B (8 * i + j) ∙ ap₂ ◌||◌ (side A (bit_xor P turned) N' ones) (side B (bit_xor N turned) P' zeros))

      pub matrix_separates : not (eqb met 0) ≡ separates w P N P' N'
      unfolding separates
      matrix_separates =
          let inside : (i : ℕ) → ltb i (length w) ≡ true → input_of (get_or w i 0) < 8 = λ i e. lt_of_lt_of_le (placed_input r.n (omega (arith, s.few)) w s.allowed i (ltb-true i (length w) e)) s.few in
          sym (any_bit 64 met met_lt) ∙ any_rows (has met) 8
          ∙ any_same _ _ 8 (λ i h. any_same _ _ 8 (λ j l. met_has i j h l) ∙ any_place (ltb i (length w)) (input_of (get_or w i 0)) (against_row i) 8 (inside i))
          ∙ any_under (λ i. against_row i (input_of (get_or w i 0))) (length w) 8 within
          ∙ any_same _ _ (length w) row_opposed
