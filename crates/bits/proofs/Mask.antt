-- Masks: the number whose bit i says whether i passes a test. A number below 2^k is the mask of its own bits, so what an
-- operator of the code does to a mask is shown bit by bit (`mask_is`).
use Prim.Native.Nat.{ℕ, zero, suc, ◌+◌, ◌-◌, ◌^◌, ◌≤◌, ◌<◌}
use mathlib.Core.Path.{◌≡◌, refl, sym, ap, ap₂, ◌∙◌, subst}
use mathlib.Core.Bool.{Bool, true, false, cond, not, ◌&&◌, ◌||◌, and-true, and-false}
use mathlib.Core.Logic.{⊎_elim}
use native.Mathlib.Nat.{lt_of_le_of_lt, sub-zero, le_trans}
use native.Mathlib.Omega.{arith}
use borrow.Author.Tests.{lt-ltb, le-ltb, eq-eqb, ne_eqb}
use lib.Bits.{bit_and, bit_or, and_le_l, or_lt}
use lib.Dec.{eqb, ltb}
use lib.Pow.{pow_pos, pow_mono, pow-lt}
use Rattle.bits.specs.Bits.{bit, has, mask}
use Rattle.bits.proofs.Tests.{below_or_not}
use Rattle.bits.proofs.Bit.{has_zero, has_or, has_and, bit_above, bit_pow, bit_not, bits_eq, counted, number_lt, number_bit}

flag_le : (b : Bool) → cond b 1 0 ≤ 1
flag_le true = omega arith
flag_le false = omega arith

flag_is : (b : Bool) → eqb (cond b 1 0) 1 ≡ b
flag_is true = refl
flag_is false = refl

module _ (k : ℕ) (t : ℕ → Bool) where
  pub mask_lt : mask k t < 2 ^ k
  mask_lt = number_lt (λ i. cond (t i) 1 0) (λ i. flag_le (t i)) k

  mask_bit : (i : ℕ) → i < k → bit i (mask k t) ≡ cond (t i) 1 0
  mask_bit i h = number_bit (λ i. cond (t i) 1 0) (λ i. flag_le (t i)) k i h

  pub mask_has : (i : ℕ) → i < k → has (mask k t) i ≡ t i
  mask_has i h = ap (λ (b : ℕ). eqb b 1) (mask_bit i h) ∙ flag_is (t i)

  -- bits above the width are 0
  pub mask_above : (i : ℕ) → k ≤ i → has (mask k t) i ≡ false
  mask_above i h = ap (λ (b : ℕ). eqb b 1) (bit_above i k mask_lt h)

  -- at any number: it is below the width, and passes
  pub mask_at : (i : ℕ) → has (mask k t) i ≡ ltb i k && t i
  mask_at i =
      ⊎_elim (λ (h : i < k). mask_has i h ∙ sym (ap (λ (b : Bool). b && t i) (lt-ltb i k h)))
      (λ (h : k ≤ i). mask_above i h ∙ sym (ap (λ (b : Bool). b && t i) (le-ltb i k h)))
      (below_or_not i k)

  -- the only number below 2^k with these bits
  pub mask_is : (x : ℕ) → x < 2 ^ k → ((i : ℕ) → i < k → has x i ≡ t i) → x ≡ mask k t
  mask_is x h f = bits_eq k x (mask k t) h mask_lt (λ i l. sym (counted x i) ∙ ap {B = ℕ} (λ (b : Bool). cond b 1 0) (f i l) ∙ sym (mask_bit i l))

pub mask_same : (k : ℕ) (t u : ℕ → Bool) → ((i : ℕ) → i < k → t i ≡ u i) → mask k t ≡ mask k u
mask_same k t u f = mask_is k u (mask k t) (mask_lt k t) (λ i l. mask_has k t i l ∙ f i l)

-- a mask of numbers below n alone is below 2^n
pub narrow_mask : (k n : ℕ) → n ≤ k → (t : ℕ → Bool) → ((i : ℕ) → n ≤ i → t i ≡ false) → mask k t < 2 ^ n
narrow_mask k n h t none =
    let narrow = mask_is k t (mask n t) (le_trans (mask_lt n t) (pow_mono h)) (λ i _. ⊎_elim (mask_has n t i) (λ l. mask_above n t i l ∙ sym (none i l)) (below_or_not i n)) in
    subst (λ (m : ℕ). m < 2 ^ n) narrow (mask_lt n t)

-- no number passes
pub mask_none : (k : ℕ) (t : ℕ → Bool) → ((i : ℕ) → i < k → t i ≡ false) → mask k t ≡ 0
mask_none k t f = sym (mask_is k t 0 (pow_pos k) (λ i l. has_zero i ∙ sym (f i l)))

-- one bit alone
pub has_pow : (j i : ℕ) → has (2 ^ j) i ≡ eqb i j
has_pow j i = ap (λ (b : ℕ). eqb b 1) (bit_pow i j) ∙ flag_is (eqb i j)

has_flag : (u : Bool) (j i : ℕ) → has (cond u (2 ^ j) 0) i ≡ eqb i j && u
has_flag true j i = has_pow j i ∙ sym (and-true (eqb i j))
has_flag false j i = has_zero i ∙ sym (and-false (eqb i j))

flag_lt : (u : Bool) (k j : ℕ) → j < k → cond u (2 ^ j) 0 < 2 ^ k
flag_lt true k j h = pow-lt h
flag_lt false k j h = pow_pos k

-- all bits turned round
pub has_not : (k x i : ℕ) → x < 2 ^ k → i < k → has (2 ^ k - 1 - x) i ≡ not (has x i)
has_not k x i h l = go (bit i (2 ^ k - 1 - x)) (bit i x) (bit_not k i x h l)
  where
    go : (a b : ℕ) → a + b ≡ 1 → eqb a 1 ≡ not (eqb b 1)
    go zero b e = sym (ap not (eq-eqb b 1 (omega arith)))
    go (suc zero) b e = sym (ap not (ne_eqb b 1 (λ q. omega arith)))
    go (suc (suc a)) b e = absurd (omega (arith, e))

-- bit j is added if u says so
pub mask_add : (k : ℕ) (t : ℕ → Bool) (j : ℕ) → j < k → (u : Bool) → bit_or (mask k t) (cond u (2 ^ j) 0) ≡ mask k (λ i. t i || eqb i j && u)
mask_add k t j h u =
    mask_is k (λ i. t i || eqb i j && u) (bit_or (mask k t) (cond u (2 ^ j) 0)) (or_lt k (mask k t) (cond u (2 ^ j) 0) (mask_lt k t) (flag_lt u k j h))
    (λ i l. has_or (mask k t) (cond u (2 ^ j) 0) i ∙ ap₂ ◌||◌ (mask_has k t i l) (has_flag u j i))

-- bit j is taken away, in a word of w bits
pub mask_drop : (w k : ℕ) → k ≤ w → (t : ℕ → Bool) (j : ℕ) → j < w → bit_and (mask k t) (2 ^ w - 1 - 2 ^ j) ≡ mask k (λ i. t i && not (eqb i j))
mask_drop w k few t j h =
    mask_is k (λ i. t i && not (eqb i j)) (bit_and (mask k t) (2 ^ w - 1 - 2 ^ j)) (lt_of_le_of_lt (and_le_l (mask k t) (2 ^ w - 1 - 2 ^ j)) (mask_lt k t))
    (λ i l. has_and (mask k t) (2 ^ w - 1 - 2 ^ j) i ∙ ap₂ ◌&&◌ (mask_has k t i l) (has_not w (2 ^ j) i (pow-lt h) (le_trans l few) ∙ ap not (has_pow j i)))

-- every number below k
pub mask_all : (k : ℕ) → 2 ^ k - 1 ≡ mask k (λ i. true)
mask_all k =
    mask_is k (λ i. true) (2 ^ k - 1) (omega (arith, pow_pos k))
    (λ i l. ap (λ (x : ℕ). has x i) (sym (sub-zero (2 ^ k - 1))) ∙ has_not k 0 i (pow_pos k) l ∙ ap not (has_zero i))
