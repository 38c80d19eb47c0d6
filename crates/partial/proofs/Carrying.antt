-- A cube carried over, by masks. The idea: at each input of g the three masks say what the definitions say of literals, so
-- that two tests of masks decide whether a pair is separated and whether it is dead.
use Prim.Native.Nat.{ℕ, ◌^◌, ◌≤◌, ◌<◌}
use mathlib.Core.Path.{◌≡◌, sym, ap, ap₂, ◌∙◌}
use mathlib.Core.Bool.{Bool, true, false, cond, not, ◌&&◌, ◌||◌, and_assoc}
use mathlib.Core.List.{List, []}
use native.Mathlib.Nat.{lt_of_le_of_lt, lt_of_lt_of_le}
use native.Mathlib.Omega.{arith}
use lib.Bits.{bit_and, bit_or, bit_xor, xor_comm, and_le_r, or_lt}
use lib.Dec.{ltb, eqb}
use lib.ListN.{length, get_or}
use Rattle.bits.specs.Bits.{has, mask, any}
use Rattle.bits.proofs.Below.{any_or, any_same, any_under, any_never}
use Rattle.bits.proofs.Bit.{has_or, has_and, has_zero, any_bit}
use Rattle.bits.proofs.Mask.{mask_same}
use Rattle.cubes.specs.Cubes.{cube_names}
use Rattle.rules.specs.Rules.{follows}
use Rattle.wirings.specs.Wirings.{input_of, straight}
use Rattle.wirings.specs.Pairs.{asks_one, asks_zero, carried_pos, carried_neg, separates, unused, unplaced_literal, unused_literal, dead}
use Rattle.partial.specs.declared.Carried.{Carried}
use Rattle.partial.specs.declared.Masks.{Masks}
use Rattle.partial.specs.Partial.{prefix, Formed, led, carried, opposes, clears}
use Rattle.partial.proofs.Standing.{stands_free}
use Rattle.partial.proofs.Matrix.{in_mask, within, served, waits, asking, asked}
use Rattle.wirings.proofs.Dead.{not_either}
use Rattle.wirings.proofs.Choices.{placed_input}
use Rattle.wirings.proofs.Agreement.{lands_any}

-- ---- the tests by masks

module _ (c : Carried) (P' N' : ℕ) (p : P' < 2 ^ 8) (m : N' < 2 ^ 8) where
  abbrev meeting : ℕ
  meeting = bit_or (bit_and c.pos N') (bit_and c.neg P')

  meeting_lt : meeting < 2 ^ 8
  meeting_lt = or_lt 8 (bit_and c.pos N') (bit_and c.neg P') (lt_of_le_of_lt (and_le_r c.pos N') m) (lt_of_le_of_lt (and_le_r c.neg P') p)

  meeting_has : (j : ℕ) → has meeting j ≡ has c.pos j && has N' j || has c.neg j && has P' j
  meeting_has j = has_or (bit_and c.pos N') (bit_and c.neg P') j ∙ ap₂ ◌||◌ (has_and c.pos N' j) (has_and c.neg P' j)

  pub opposes_masks : not (eqb meeting 0) ≡ opposes c P' N'
  unfolding opposes
  opposes_masks = sym (any_bit 8 meeting meeting_lt) ∙ any_same (has meeting) _ 8 (λ j l. meeting_has j)

  pub clears_masks : eqb (bit_or meeting (bit_and c.free (bit_or P' N'))) 0 ≡ clears c P' N'
  unfolding opposes clears
  clears_masks =
      let named : ℕ = bit_and c.free (bit_or P' N') in
      let small = or_lt 8 meeting named meeting_lt (lt_of_le_of_lt (and_le_r c.free (bit_or P' N')) (or_lt 8 P' N' p m)) in
      let at_j : (j : ℕ) → has (bit_or meeting named) j ≡ has c.pos j && has N' j || has c.neg j && has P' j || has c.free j && cube_names P' N' j = λ j.
      has_or meeting named j ∙ ap₂ ◌||◌ (meeting_has j) (has_and c.free (bit_or P' N') j ∙ ap (λ (b : Bool). has c.free j && b) (has_or P' N' j)) in
      turned (eqb (bit_or meeting named) 0)
      (sym (any_bit 8 (bit_or meeting named) small) ∙ any_same (has (bit_or meeting named)) _ 8 (λ j l. at_j j)
      ∙ sym (any_or (λ j. has c.pos j && has N' j || has c.neg j && has P' j) (λ j. has c.free j && cube_names P' N' j) 8))
    where
      turned : (t : Bool) {u : Bool} → not t ≡ u → t ≡ not u
      turned true e = ap not e
      turned false e = ap not e

-- the inputs of g at which a literal that waits may come to stand
free_meets : (U : Bool) (n : ℕ) → n ≤ 8 → (w : List ℕ) (P' N' : ℕ)
    → any 8 (λ j. has (cond U (mask n (unused w)) 0) j && cube_names P' N' j) ≡ U && unused_literal n w P' N'
free_meets true n few w P' N' = in_mask (unused w) (cube_names P' N') n few
free_meets false n few w P' N' = any_same _ (λ j. false) 8 (λ j l. ap (λ (b : Bool). b && cube_names P' N' j) (has_zero j)) ∙ any_never 8

-- ---- what the carried cube says of the pair

module _ (n : ℕ) (few : n ≤ 8) (w : List ℕ) (allowed : follows (straight n) [] w ≡ true) (P N P' N' : ℕ) where
  abbrev choice : ℕ → ℕ
  choice i = get_or w i 0

  inside : (i : ℕ) → i < length w → input_of (choice i) < 8
  inside i h = lt_of_lt_of_le (placed_input n (omega arith) w allowed i h) few

  pub opposes_separates : opposes (carried n w P N) P' N' ≡ separates w P N P' N'
  unfolding opposes carried separates
  opposes_separates =
      sym (any_or (λ j. has (carried_pos w P N) j && has N' j) (λ j. has (carried_neg w P N) j && has P' j) 8)
      ∙ ap₂ ◌||◌ (lands_any asks_one w P N inside N') (lands_any asks_zero w P N inside P')
      ∙ any_or (λ i. asks_one (choice i) P N i && has N' (input_of (choice i))) (λ i. asks_zero (choice i) P N i && has P' (input_of (choice i))) (length w)

  pub clears_dead : clears (carried n w P N) P' N' ≡ dead n w P N P' N'
  unfolding carried clears dead
  clears_dead =
      ap not (ap₂ ◌||◌ opposes_separates (free_meets (unplaced_literal n w P N) n few w P' N'))
      ∙ not_either (separates w P N P' N') (unplaced_literal n w P N) (unused_literal n w P' N')

-- ---- all placed literals carried at once

module _ (r : Masks) (s : Formed r) where
  abbrev w : List ℕ
  w = prefix r

  -- the literals of one side
  led_pos : (P N : ℕ) → led r.bits (bit_xor P (bit_and (bit_xor P N) r.inverted)) ≡ carried_pos w P N
  led_pos P N =
      mask_same 8 _ _
      (λ j l.
      any_same _ _ 8 (λ i h. ap (λ (t : Bool). t && has (asking r s P N) i) (served r s i j h l) ∙ and_assoc (ltb i (length w)) (eqb j (input_of (get_or w i 0))) (has (asking r s P N) i))
      ∙ any_under (λ i. eqb j (input_of (get_or w i 0)) && has (asking r s P N) i) (length w) 8 (within r s)
      ∙ any_same _ _ (length w) (λ i h. ap (λ (t : Bool). eqb j (input_of (get_or w i 0)) && t) (asked r s P N i h)))

  -- of both, and where one may still come to stand
  pub all_led : (P N : ℕ) → let turned = bit_and (bit_xor P N) r.inverted in
      carried r.n w P N ≡ record {
        pos = led r.bits (bit_xor P turned);
        neg = led r.bits (bit_xor N turned);
        free = cond (not (eqb (bit_and (bit_or P N) r.unplaced) 0)) r.free 0;
      }
  unfolding carried
  all_led P N =
      let pos_is = led_pos P N in
      let neg_is = ap (λ (m : ℕ). led r.bits (bit_xor N (bit_and m r.inverted))) (xor_comm P N) ∙ led_pos N P in
      let free_is = ap₂ (λ (t : Bool) (m : ℕ). cond t m 0) (waits r s P N) (stands_free r r.n w s) in
      sym (λ i. record { pos = pos_is i; neg = neg_is i; free = free_is i })
