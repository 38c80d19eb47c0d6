-- The next place that is offered, from the mask of free inputs. The idea: place k is of input k / 2 of g, and is offered if that is
-- free; with a bit more at n as the end, the lowest one of the mask from the input of place c on tells the next.
use Prim.Native.Nat.{ℕ, zero, suc, ◌+◌, ◌-◌, ◌*◌, ◌/◌, ◌%◌, ◌^◌, ◌≤◌, ◌<◌}
use mathlib.Core.Path.{◌≡◌, refl, sym, ap, ap₂, ◌∙◌}
use mathlib.Core.Bool.{Bool, true, false, not, ◌&&◌, ◌||◌, true≢false}
use mathlib.Core.List.{List}
use mathlib.Core.Logic.{⊎_elim}
use native.Mathlib.Omega.{arith}
use borrow.Author.Tests.{ltb-true, lt-ltb, eqb-true, eqb-false, eq-eqb}
use lib.Bits.{bit_and, bit_or, and_mask}
use lib.Count.{count_trailing_zeros}
use lib.Dec.{ltb, eqb}
use Rattle.bits.specs.Bits.{bit, has}
use Rattle.bits.proofs.Tests.{both_left, both_right, either, or_right, neither, below_or_not}
use Rattle.bits.proofs.Bit.{bit_low, has_or, has_shr, one_shifted, trailing_zero, trailing_one}
use Rattle.bits.proofs.Mask.{mask_at, has_pow}
use Rattle.wirings.specs.Wirings.{choice_at, free_choice, uses}
use Rattle.wirings.specs.Pairs.{unused}
use Rattle.partial.specs.declared.Masks.{Masks}
use Rattle.partial.specs.Partial.{Formed, prefix, offer_from}
use Rattle.partial.proofs.Standing.{stands_free}
use Rattle.partial.proofs.Steps.{offer_here, offer_end, skip_to}

module _ (r : Masks) (s : Formed r) where
  abbrev n : ℕ
  n = r.n

  abbrev w : List ℕ
  w = prefix r

  -- the free inputs of g, and n
  abbrev pub marks : ℕ
  marks = bit_or r.free ((1 * 2 ^ n) % 2 ^ 32)

  marked : (i : ℕ) → has marks i ≡ ltb i n && unused w i || eqb i n
  marked i =
      has_or r.free ((1 * 2 ^ n) % 2 ^ 32) i
      ∙ ap₂ ◌||◌ (ap (λ (m : ℕ). has m i) (stands_free r n w s) ∙ mask_at n (unused w) i) (ap (λ (m : ℕ). has m i) (one_shifted 32 n (omega (arith, s.few))) ∙ has_pow n i)

  -- the choice at a place is free if its input is
  of_input : (k : ℕ) → k < 32 → free_choice w (choice_at k) ≡ unused w (k / 2)
  of_input k h = ap (λ (j : ℕ). not (uses w j)) (omega arith)

  module _ (k : ℕ) (within : k ≤ 2 * n) where
    -- a marked input offers its place, or is the end
    here : has marks (k / 2) ≡ true → offer_from n w k ≡ k
    here e =
        ⊎_elim
        (λ (p : ltb (k / 2) n && unused w (k / 2) ≡ true).
        let low = ltb-true (k / 2) n (both_left (ltb (k / 2) n) (unused w (k / 2)) p) in
        offer_here n w k (omega arith) (of_input k (omega (arith, s.few)) ∙ both_right (ltb (k / 2) n) (unused w (k / 2)) p))
        (λ (p : eqb (k / 2) n ≡ true). let at = eqb-true (k / 2) n p in offer_end n w k (omega arith))
        (either (ltb (k / 2) n && unused w (k / 2)) (eqb (k / 2) n) (sym (marked (k / 2)) ∙ e))

    -- and one that is not does not
    away : has marks (k / 2) ≡ false → (k < 2 * n) × (free_choice w (choice_at k) ≡ false)
    away e =
        let x = neither (ltb (k / 2) n && unused w (k / 2)) (eqb (k / 2) n) (sym (marked (k / 2)) ∙ e) in
        let not_end : k / 2 ≡ n → ⊥ = eqb-false (k / 2) n x.1 in
        let low : k / 2 < n = omega arith in
        (omega arith, of_input k (omega (arith, s.few)) ∙ sym (ap (λ (t : Bool). t && unused w (k / 2)) (lt-ltb (k / 2) n low)) ∙ x.0)

  module _ (c : ℕ) (within : c ≤ 2 * n) where
    abbrev pub left : ℕ
    left = marks / 2 ^ (c / 2)

    -- the input of place c is marked
    pub offers_here : (bit_and left 1 ≡ 0 → ⊥) → c ≡ offer_from n w c
    unfolding bit
    offers_here e = sym (here c within (eq-eqb (left % 2) 1 (let odd = and_mask left 1 in omega arith)))

    -- it is not: the lowest one is further on
    module _ (e : bit_and left 1 ≡ 0) where
      abbrev zeros : ℕ
      zeros = count_trailing_zeros 32 left

      -- up to it no input is marked
      unmarked : (j : ℕ) → c / 2 ≤ j → j < c / 2 + zeros → has marks j ≡ false
      unmarked j l u =
          let same : c / 2 + (j - c / 2) ≡ j = omega arith in
          ap (has marks) (sym same) ∙ sym (has_shr marks (c / 2) (j - c / 2)) ∙ ap (λ (b : ℕ). eqb b 1) (trailing_zero 32 left (j - c / 2) (omega arith))

      -- so it is n at the latest
      pub zeros_fit : c / 2 + zeros ≤ n
      zeros_fit =
          ⊎_elim (λ (h : n < c / 2 + zeros). absurd (true≢false (sym (or_right (ltb n n && unused w n) (eq-eqb n n refl)) ∙ sym (marked n) ∙ unmarked n (omega arith) h)))
          (λ (h : c / 2 + zeros ≤ n). h) (below_or_not n (c / 2 + zeros))

      pub offers_further : 2 * (c / 2 + zeros) ≡ offer_from n w c
      offers_further =
          let k : ℕ = 2 * (c / 2 + zeros) in
          let one = trailing_one 32 left (omega (arith, zeros_fit, s.few)) in
          let some = above zeros one in
          let half : k / 2 ≡ c / 2 + zeros = omega arith in
          let there = here k (omega (arith, zeros_fit)) (ap (has marks) half ∙ sym (has_shr marks (c / 2) zeros) ∙ eq-eqb (bit zeros left) 1 one) in
          let whole : c + (k - c) ≡ k = omega arith in
          let before : (j : ℕ) → c ≤ j → j < c + (k - c) → (j < 2 * n) × (free_choice w (choice_at j) ≡ false) =
          λ j l u. away j (omega (arith, zeros_fit, whole)) (unmarked (j / 2) (omega arith) (omega (arith, whole))) in
          sym (skip_to n w (k - c) c before ∙ ap (offer_from n w) whole ∙ there)
        where
          -- a bit that is 1 is not the lowest
          above : (t : ℕ) → bit t left ≡ 1 → 1 ≤ t
          above zero o = absurd (omega (arith, bit_low left, and_mask left 1))
          above (suc t) o = omega arith

-- what the code's test of the mask says of the offer
pub ruleset offering = (offers_here, zeros_fit, offers_further)
