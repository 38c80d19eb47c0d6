-- Laws of bits, over any width: what each operator of the code does to bit i, and how bits decide equality and order.
-- The idea: bit i of x is the lowest bit of x / 2^i, and every operator of the language goes through a shift.
use Prim.Native.Nat.{ℕ, zero, suc, ◌+◌, ◌-◌, ◌*◌, ◌/◌, ◌%◌, ◌^◌, ◌≤◌, ◌<◌, zero-le, suc-le-suc, min, max}
use mathlib.Core.Path.{◌≡◌, refl, sym, ap, ap₂, ◌∙◌, subst, subst₂}
use mathlib.Core.Bool.{Bool, true, false, cond, not, ◌&&◌, ◌||◌, xor, false≢true}
use mathlib.Core.Logic.{⊎_elim}
use native.Mathlib.Nat.{le_trans, le_antisymm, le_of_eq, le_of_suc-le-suc, not-suc-le-zero, mod-lt, zero-lt-suc, zero-div, div-eq_of_lt, div-one, mul_assoc, one-mul, add-zero, pow-suc, eq-or-lt_of_le, le_refl, mul-le-mul_right, mod-eq_of_lt}
use native.Mathlib.Numerals.{add-one}
use native.Mathlib.Omega.{arith}
use borrow.Author.Tests.{eq-eqb, ne_eqb, eqb-true, eqb-false}
use lib.Bits.{bit_and, bit_or, bit_xor, differ, and_step, or_step, xor_step, and_shr, or_shr, xor_shr, shifted_even}
use lib.Dec.{eqb}
use lib.Arith.{lt-one}
use lib.Pow.{pow_pos, pow_mono, pow-lt, pow-add, shr_lt, shr-shr, shl-shr, field, mod-mod-pow, high, low}
use lib.Count.{ones, ones_step, under, count_trailing_zeros}
use Rattle.bits.specs.Bits.{bit, has, number, any, count}
use Rattle.bits.proofs.Tests.{decide, below_or_not}
use Rattle.bits.proofs.Below.{below_suc, any_if, any_none, count_low, count_same}

-- a bit is 0 or 1
pub bit_le : (i x : ℕ) → bit i x ≤ 1
unfolding bit
bit_le i x = omega (arith, mod-lt (x / 2 ^ i) (zero-lt-suc 1))

pub bit_zero : (i : ℕ) → bit i 0 ≡ 0
unfolding bit
bit_zero i = ap (λ (n : ℕ). n % 2) (zero-div (2 ^ i))

pub has_zero : (i : ℕ) → has 0 i ≡ false
has_zero i = ap (λ (n : ℕ). eqb n 1) (bit_zero i)

-- the lowest bit, and the others
pub bit_low : (x : ℕ) → bit 0 x ≡ x % 2
unfolding bit
bit_low x = ap (λ (n : ℕ). n % 2) (div-one x)

pub bit_suc : (i x : ℕ) → bit (suc i) x ≡ bit i (x / 2)
unfolding bit
bit_suc i x = ap (λ (n : ℕ). n % 2) (sym (shr-shr x 1 i ∙ ap (λ (k : ℕ). x / 2 ^ k) (omega arith)))

-- ---- the operators

pub bit-and : (i a b : ℕ) → bit i (bit_and a b) ≡ min (bit i a) (bit i b)
unfolding bit
bit-and i a b = ap (λ (n : ℕ). n % 2) (and_shr a b i) ∙ omega (arith, and_step (a / 2 ^ i) (b / 2 ^ i))

pub bit-or : (i a b : ℕ) → bit i (bit_or a b) ≡ max (bit i a) (bit i b)
unfolding bit
bit-or i a b = ap (λ (n : ℕ). n % 2) (or_shr a b i) ∙ omega (arith, or_step (a / 2 ^ i) (b / 2 ^ i))

pub bit-xor : (i a b : ℕ) → bit i (bit_xor a b) ≡ differ (bit i a) (bit i b)
unfolding bit
bit-xor i a b =
    ap (λ (n : ℕ). n % 2) (xor_shr a b i)
    ∙ low (bit_xor (a / 2 ^ i / 2) (b / 2 ^ i / 2)) (xor_step (a / 2 ^ i) (b / 2 ^ i)) (one (a / 2 ^ i % 2) (b / 2 ^ i % 2) (bit_le i a) (bit_le i b))
  where
    low : {x d : ℕ} (h : ℕ) → x ≡ h * 2 + d → d ≤ 1 → x % 2 ≡ d
    low h e l = omega arith

    one : (x y : ℕ) → x ≤ 1 → y ≤ 1 → differ x y ≤ 1
    one zero y h k = k
    one (suc x) zero h k = h
    one (suc zero) (suc zero) h k = zero-le
    one (suc zero) (suc (suc y)) h k = absurd (not-suc-le-zero (le_of_suc-le-suc k))
    one (suc (suc x)) (suc y) h k = absurd (not-suc-le-zero (le_of_suc-le-suc h))

-- the same, of the test whether a bit is 1: four cases decide it
has_by : (op : ℕ → ℕ → ℕ) (t : Bool → Bool → Bool)
    → eqb (op 0 0) 1 ≡ t false false → eqb (op 0 1) 1 ≡ t false true → eqb (op 1 0) 1 ≡ t true false → eqb (op 1 1) 1 ≡ t true true
    → (x y : ℕ) → x ≤ 1 → y ≤ 1 → eqb (op x y) 1 ≡ t (eqb x 1) (eqb y 1)
has_by op t none second first both zero zero h k = none
has_by op t none second first both zero (suc zero) h k = second
has_by op t none second first both zero (suc (suc y)) h k = absurd (not-suc-le-zero (le_of_suc-le-suc k))
has_by op t none second first both (suc zero) zero h k = first
has_by op t none second first both (suc zero) (suc zero) h k = both
has_by op t none second first both (suc zero) (suc (suc y)) h k = absurd (not-suc-le-zero (le_of_suc-le-suc k))
has_by op t none second first both (suc (suc x)) y h k = absurd (not-suc-le-zero (le_of_suc-le-suc h))

pub has_or : (a b i : ℕ) → has (bit_or a b) i ≡ has a i || has b i
has_or a b i = ap (λ (n : ℕ). eqb n 1) (bit-or i a b) ∙ has_by max ◌||◌ refl refl refl refl (bit i a) (bit i b) (bit_le i a) (bit_le i b)

pub has_and : (a b i : ℕ) → has (bit_and a b) i ≡ has a i && has b i
has_and a b i = ap (λ (n : ℕ). eqb n 1) (bit-and i a b) ∙ has_by min ◌&&◌ refl refl refl refl (bit i a) (bit i b) (bit_le i a) (bit_le i b)

pub has_xor : (a b i : ℕ) → has (bit_xor a b) i ≡ xor (has a i) (has b i)
unfolding xor
has_xor a b i = ap (λ (n : ℕ). eqb n 1) (bit-xor i a b) ∙ has_by differ xor refl refl refl refl (bit i a) (bit i b) (bit_le i a) (bit_le i b)

pub bit_shr : (i k x : ℕ) → bit i (x / 2 ^ k) ≡ bit (k + i) x
unfolding bit
bit_shr i k x = ap (λ (n : ℕ). n % 2) (shr-shr x k i)

pub bit_shl : (i k x : ℕ) → bit (k + i) (x * 2 ^ k) ≡ bit i x
unfolding bit
bit_shl i k x = ap (λ (n : ℕ). n % 2) (sym (shr-shr (x * 2 ^ k) k i) ∙ ap (λ (n : ℕ). n / 2 ^ i) (shl-shr x k))

pub has_shr : (x k i : ℕ) → has (x / 2 ^ k) i ≡ has x (k + i)
has_shr x k i = ap (λ (n : ℕ). eqb n 1) (bit_shr i k x)

-- one bit, shifted within the width
pub one_shifted : (w k : ℕ) → k < w → (1 * 2 ^ k) % 2 ^ w ≡ 2 ^ k
one_shifted w k h = ap (λ (m : ℕ). m % 2 ^ w) (one-mul (2 ^ k)) ∙ mod-eq_of_lt (pow-lt h)

-- the bits below a shift are 0
pub bit_shl_low : (i k x : ℕ) → i < k → bit i (x * 2 ^ k) ≡ 0
unfolding bit
bit_shl_low i k x h =
    let d = k - suc i in
    let e : x * 2 ^ k ≡ x * 2 ^ suc d * 2 ^ i = ap (λ (m : ℕ). x * 2 ^ m) (omega arith) ∙ ap (λ (m : ℕ). x * m) (pow-add 2 (suc d) i) ∙ sym (mul_assoc x (2 ^ suc d) (2 ^ i)) in
    ap (λ (n : ℕ). n / 2 ^ i % 2) e ∙ ap (λ (n : ℕ). n % 2) (shl-shr (x * 2 ^ suc d) i) ∙ shifted_even x d

-- cutting a number at bit k keeps the bits below
pub bit_mod : (i k x : ℕ) → i < k → bit i (x % 2 ^ k) ≡ bit i x
unfolding bit
bit_mod i k x h =
    let d = k - suc i in
    let e : k ≡ d + 1 + i = omega arith in
    ap (λ (m : ℕ). x % 2 ^ m / 2 ^ i % 2) e ∙ ap (λ (n : ℕ). n % 2) (field x (d + 1) i) ∙ mod-mod-pow (x / 2 ^ i) d 1

-- ---- bits decide: equality with 0, order, equality

pub bit_above : (i : ℕ) {x : ℕ} (k : ℕ) → x < 2 ^ k → k ≤ i → bit i x ≡ 0
unfolding bit
bit_above i k h l = ap (λ (n : ℕ). n % 2) (div-eq_of_lt (le_trans h (pow_mono l)))

-- one bit alone
pub bit_pow : (i j : ℕ) → bit i (2 ^ j) ≡ cond (eqb i j) 1 0
bit_pow i j = ⊎_elim below (λ h. ⊎_elim same above (eq-or-lt_of_le h)) (below_or_not i j)
  where
    whole : 1 * 2 ^ j ≡ 2 ^ j
    whole = one-mul (2 ^ j)

    below : i < j → bit i (2 ^ j) ≡ cond (eqb i j) 1 0
    below h = simp (ne_eqb i j (λ e. omega arith)) (ap (bit i) (sym whole) ∙ bit_shl_low i j 1 h)

    same : j ≡ i → bit i (2 ^ j) ≡ cond (eqb i j) 1 0
    same e = simp (eq-eqb i j (sym e)) (ap₂ (λ (k n : ℕ). bit k n) (sym e ∙ sym (add-zero j)) (sym whole) ∙ bit_shl 0 j 1 ∙ bit_low 1)

    above : j < i → bit i (2 ^ j) ≡ cond (eqb i j) 1 0
    above h = simp (ne_eqb i j (λ e. omega arith)) (bit_above i (suc j) (pow-lt (le_refl (suc j))) h)

-- all bits of a width turned round
pub bit_not : (w i x : ℕ) → x < 2 ^ w → i < w → bit i (2 ^ w - 1 - x) + bit i x ≡ 1
bit_not zero i x h l = absurd (not-suc-le-zero l)
bit_not (suc w) zero x h l =
    let p = pow-suc 2 w in
    ap₂ ◌+◌ (bit_low (2 ^ suc w - 1 - x)) (bit_low x) ∙ omega (arith, p)
bit_not (suc w) (suc i) x h l =
    let p = pow-suc 2 w in
    let half : x / 2 < 2 ^ w = omega (arith, p) in
    let turned : (2 ^ suc w - 1 - x) / 2 ≡ 2 ^ w - 1 - x / 2 = omega (arith, p) in
    ap₂ ◌+◌ (bit_suc i (2 ^ suc w - 1 - x) ∙ ap (bit i) turned) (bit_suc i x) ∙ bit_not w i (x / 2) half (le_of_suc-le-suc l)

-- where each bit of x is at most y's, x is at most y
pub bits_le : (k x y : ℕ) → x < 2 ^ k → ((i : ℕ) → i < k → bit i x ≤ bit i y) → x ≤ y
bits_le zero x y h f = omega (arith, h)
bits_le (suc k) x y h f =
    let low : x % 2 ≤ y % 2 = subst₂ (λ (a b : ℕ). a ≤ b) (bit_low x) (bit_low y) (f 0 (zero-lt-suc k)) in
    let up : x / 2 ≤ y / 2 = bits_le k (x / 2) (y / 2) (shr_lt k 1 (subst (λ (m : ℕ). x < 2 ^ m) (sym (add-one k)) h)) (λ i l. subst₂ (λ (a b : ℕ). a ≤ b) (bit_suc i x) (bit_suc i y) (f (suc i) (suc-le-suc l))) in
    omega arith

pub bits_eq : (k x y : ℕ) → x < 2 ^ k → y < 2 ^ k → ((i : ℕ) → i < k → bit i x ≡ bit i y) → x ≡ y
bits_eq k x y h g f =
    le_antisymm (bits_le k x y h (λ i l. le_of_eq (f i l))) (bits_le k y x g (λ i l. le_of_eq (sym (f i l))))

pub bits_zero : (k x : ℕ) → x < 2 ^ k → ((i : ℕ) → i < k → bit i x ≡ 0) → x ≡ 0
bits_zero k x h f = bits_eq k x 0 h (pow_pos k) (λ i l. f i l ∙ sym (bit_zero i))

-- a bit that is not 1 is 0
pub bit_not_one : (i x : ℕ) → (has x i ≡ true → ⊥) → bit i x ≡ 0
bit_not_one i x f =
    let other : bit i x ≡ 1 → ⊥ = λ e. f (eq-eqb _ _ e) in
    omega (arith, bit_le i x)

-- some bit is 1 exactly in the numbers above 0
pub any_bit : (k x : ℕ) → x < 2 ^ k → any k (has x) ≡ not (eqb x 0)
any_bit k x h = go (eqb x 0) refl
  where
    go : (t : Bool) → eqb x 0 ≡ t → any k (has x) ≡ not t
    go true e = any_none (has x) k (λ i l q. false≢true (sym (has_zero i) ∙ ap (λ (n : ℕ). has n i) (sym (eqb-true _ _ e)) ∙ q))
    go false e =
        ⊎_elim (λ q. q)
        (λ (q : any k (has x) ≡ false). absurd (eqb-false _ _ e (bits_zero k x h (λ i l. bit_not_one i x (λ p. false≢true (sym q ∙ any_if (has x) k i l p))))))
        (decide (any k (has x)))

-- ---- the number of ones

-- a bit, as a test that is counted
pub counted : (x i : ℕ) → cond (has x i) 1 0 ≡ bit i x
counted x i = go (bit i x) (bit_le i x)
  where
    go : (b : ℕ) → b ≤ 1 → cond (eqb b 1) 1 0 ≡ b
    go zero h = refl
    go (suc zero) h = refl
    go (suc (suc b)) h = absurd (not-suc-le-zero (le_of_suc-le-suc h))

-- the number of ones of x is the number of its bits that are 1
pub ones_count : (k x : ℕ) → x < 2 ^ k → ones x ≡ count k (has x)
unfolding ones count
ones_count zero x h = ap ones (lt-one h)
ones_count (suc k) x h =
    let up = ones_count k (x / 2) (shr_lt k 1 (subst (λ (m : ℕ). x < 2 ^ m) (sym (add-one k)) h)) in
    ones_step x ∙ ap₂ ◌+◌ (sym (counted x 0 ∙ bit_low x)) (up ∙ count_same (has (x / 2)) (λ i. has x (suc i)) k (λ i l. ap (λ (b : ℕ). eqb b 1) (sym (bit_suc i x)))) ∙ sym (count_low (has x) k)

-- ---- the zeros below the lowest one: each is 0, and above them, unless all k are zeros, stands a 1

pub trailing_zero : (k x i : ℕ) → i < count_trailing_zeros k x → bit i x ≡ 0
unfolding count_trailing_zeros
trailing_zero zero x i h = absurd (not-suc-le-zero h)
trailing_zero (suc k) x i h = go (x % 2) refl i h (trailing_zero k (x / 2))
  where
    go : (d : ℕ) → x % 2 ≡ d → (i : ℕ) → i < under d (count_trailing_zeros k (x / 2)) → ((i : ℕ) → i < count_trailing_zeros k (x / 2) → bit i (x / 2) ≡ 0) → bit i x ≡ 0
    go zero e zero h later = bit_low x ∙ e
    go zero e (suc i) h later = bit_suc i x ∙ later i (le_of_suc-le-suc h)
    go (suc d) e i h later = absurd (not-suc-le-zero h)

pub trailing_one : (k x : ℕ) → count_trailing_zeros k x < k → bit (count_trailing_zeros k x) x ≡ 1
unfolding count_trailing_zeros
trailing_one zero x h = absurd (not-suc-le-zero h)
trailing_one (suc k) x h = go (x % 2) refl (mod-lt x (zero-lt-suc 1)) h (trailing_one k (x / 2))
  where
    go : (d : ℕ) → x % 2 ≡ d → x % 2 < 2 → under d (count_trailing_zeros k (x / 2)) < suc k → (count_trailing_zeros k (x / 2) < k → bit (count_trailing_zeros k (x / 2)) (x / 2) ≡ 1) → bit (under d (count_trailing_zeros k (x / 2))) x ≡ 1
    go zero e l h later = bit_suc (count_trailing_zeros k (x / 2)) x ∙ later (le_of_suc-le-suc h)
    go (suc d) e l h later = bit_low x ∙ omega arith

-- ---- the number with given bits

bit_top : (b k : ℕ) {rest : ℕ} → rest < 2 ^ k → b ≤ 1 → bit k (b * 2 ^ k + rest) ≡ b
unfolding bit
bit_top b k h l = ap (λ (n : ℕ). n % 2) (high b k h) ∙ mod-eq_of_lt (suc-le-suc l)

module _ (f : ℕ → ℕ) (small : (i : ℕ) → f i ≤ 1) where
  pub number_lt : (k : ℕ) → number k f < 2 ^ k
  unfolding number
  number_lt zero = omega arith
  number_lt (suc k) = omega (arith, number_lt k, mul-le-mul_right (2 ^ k) (small k), pow-suc 2 k)

  pub number_bit : (k i : ℕ) → i < k → bit i (number k f) ≡ f i
  unfolding number
  number_bit zero i h = absurd (not-suc-le-zero h)
  number_bit (suc k) i h = ⊎_elim top (λ l. lower l (number_bit k i l)) (below_suc h)
    where
      top : i ≡ k → bit i (f k * 2 ^ k + number k f) ≡ f i
      top e = ap (λ (j : ℕ). bit j (f k * 2 ^ k + number k f)) e ∙ bit_top (f k) k (number_lt k) (small k) ∙ ap f (sym e)

      lower : i < k → bit i (number k f) ≡ f i → bit i (f k * 2 ^ k + number k f) ≡ f i
      lower l e = sym (bit_mod i k (f k * 2 ^ k + number k f) l) ∙ ap (bit i) (low (f k) k (number_lt k)) ∙ e
