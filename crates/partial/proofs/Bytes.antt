-- Bytes side by side in one number. The idea: such a number times a byte is each of its bytes times the byte, as long as none
-- reaches into the next; half of the bytes laid over the other half keeps each bit that some byte has.
use Prim.Native.Nat.{ℕ, zero, suc, ◌+◌, ◌*◌, ◌/◌, ◌%◌, ◌^◌, ◌≤◌, ◌<◌}
use mathlib.Core.Path.{◌≡◌, refl, sym, ap, ◌∙◌}
use mathlib.Core.Bool.{Bool, true, false, cond, ◌&&◌, ◌||◌, and-true}
use native.Mathlib.Nat.{one-mul, zero-mul, add-mul, mul_assoc, mul-le-mul, lt_of_le_of_lt}
use native.Mathlib.Omega.{arith}
use borrow.Author.Tests.{eqb-true}
use lib.Bits.{bit_and, bit_or, and_mask, and_le_r}
use lib.Dec.{eqb}
use Rattle.bits.specs.Bits.{bit, has, mask, any, every}
use Rattle.bits.proofs.Below.{every_at, any_add, any_or, any_same}
use Rattle.bits.proofs.Bit.{has_zero, has_or, has_and, has_shr, bit_mod}
use Rattle.bits.proofs.Mask.{mask_is, mask_has, mask_same}
use Rattle.partial.specs.Partial.{led}

-- ---- a number of k bytes, of which byte i is f i

unfoldable pub of_bytes : ℕ → (ℕ → ℕ) → ℕ
of_bytes zero f = 0
of_bytes (suc k) f = f 0 + 256 * of_bytes k (λ i. f (suc i))

pub bytes_times : (k : ℕ) (f : ℕ → ℕ) (b : ℕ) → of_bytes k f * b ≡ of_bytes k (λ i. f i * b)
unfolding of_bytes
bytes_times zero f b = zero-mul b
bytes_times (suc k) f b =
    let rest = of_bytes k (λ i. f (suc i)) in
    add-mul (f 0) (256 * rest) b ∙ ap (λ (m : ℕ). f 0 * b + m) (mul_assoc 256 rest b ∙ ap (λ (m : ℕ). 256 * m) (bytes_times k (λ i. f (suc i)) b))

pub bytes_has : (k : ℕ) (f : ℕ → ℕ) → ((i : ℕ) → f i < 256) → (i j : ℕ) → i < k → j < 8 → has (of_bytes k f) (8 * i + j) ≡ has (f i) j
unfolding of_bytes
bytes_has zero f small i j h l = absurd (omega (arith, h))
bytes_has (suc k) f small zero j h l =
    let low : of_bytes (suc k) f % 2 ^ 8 ≡ f 0 = omega (arith, small 0) in
    ap (has (of_bytes (suc k) f)) (omega arith) ∙ ap (λ (b : ℕ). eqb b 1) (sym (bit_mod j 8 (of_bytes (suc k) f) l)) ∙ ap (λ (m : ℕ). has m j) low
bytes_has (suc k) f small (suc i) j h l =
    let high : of_bytes (suc k) f / 2 ^ 8 ≡ of_bytes k (λ i. f (suc i)) = omega (arith, small 0) in
    ap (has (of_bytes (suc k) f)) (omega arith) ∙ sym (has_shr (of_bytes (suc k) f) 8 (8 * i + j)) ∙ ap (λ (m : ℕ). has m (8 * i + j)) high
    ∙ bytes_has k (λ i. f (suc i)) (λ i. small (suc i)) i j (omega arith) l

-- ---- a byte copied to where the bits of another are 1

-- bit i of byte i alone; carried to the top of its byte and taken down to the lowest place
abbrev diagonal : ℕ → ℕ
diagonal m = bit_and (m * 0x0101_0101_0101_0101) 0x8040_2010_0804_0201

abbrev pub lowered : ℕ → ℕ
lowered m = bit_and ((diagonal m + 0x0040_6070_787C_7E7F) / 2 ^ 7) 0x0101_0101_0101_0101

-- for each of 256 masks, by computing
lowered_is : (m : ℕ) → m < 256 → lowered m ≡ of_bytes 8 (λ i. cond (has m i) 1 0)
unfolding bit every of_bytes
lowered_is m h = eqb-true _ _ (every_at (λ m. eqb (lowered m) (of_bytes 8 (λ i. cond (has m i) 1 0))) 256 refl m h)

-- one byte
times_flag : (t : Bool) (b : ℕ) → b < 256 → cond t 1 0 * b < 256
times_flag true b h = omega (arith, one-mul b)
times_flag false b h = omega (arith, zero-mul b)

has_flag : (t : Bool) (b j : ℕ) → has (cond t 1 0 * b) j ≡ t && has b j
has_flag true b j = ap (λ (m : ℕ). has m j) (one-mul b)
has_flag false b j = ap (λ (m : ℕ). has m j) (zero-mul b) ∙ has_zero j

pub product_lt : (m b : ℕ) → b < 256 → lowered m * b < 2 ^ 64
product_lt m b h =
    let most : b ≤ 255 = omega arith in
    lt_of_le_of_lt (mul-le-mul (and_le_r ((diagonal m + 0x0040_6070_787C_7E7F) / 2 ^ 7) 0x0101_0101_0101_0101) most) (omega arith)

pub copied_is : (m b : ℕ) → m < 256 → b < 256 → lowered m * b ≡ mask 64 (λ k. has m (k / 8) && has b (k % 8))
copied_is m b h small =
    let f : ℕ → ℕ = λ i. cond (has m i) 1 0 in
    mask_is 64 (λ k. has m (k / 8) && has b (k % 8)) (lowered m * b) (product_lt m b small)
    (λ k l.
    let place : k ≡ 8 * (k / 8) + k % 8 = omega arith in
    ap (λ (x : ℕ). has x k) (ap (λ (x : ℕ). x * b) (lowered_is m h) ∙ bytes_times 8 f b)
    ∙ ap (has (of_bytes 8 (λ i. f i * b))) place
    ∙ bytes_has 8 (λ i. f i * b) (λ i. times_flag (has m i) b small) (k / 8) (k % 8) (omega arith) (omega arith)
    ∙ has_flag (has m (k / 8)) b (k % 8))

-- a byte that is 255 has all its bits
full : (j : ℕ) → j < 8 → has 255 j ≡ true
unfolding bit every
full j h = every_at (has 255) 8 refl j h

pub spread_is : (m : ℕ) → mask 64 (λ k. has m (k / 8) && has 255 (k % 8)) ≡ mask 64 (λ k. has m (k / 8))
spread_is m = mask_same 64 _ _ (λ k l. ap (λ (t : Bool). has m (k / 8) && t) (full (k % 8) (omega arith)) ∙ and-true (has m (k / 8)))

-- ---- bytes laid over each other

-- of 2·k bytes, the upper k laid over the lower: some of these has bit j where some of all had it
abbrev laid : ℕ → ℕ → ℕ
laid k x = bit_or x (x / 2 ^ (8 * k))

laid_any : (k x j : ℕ) → any k (λ i. has (laid k x) (8 * i + j)) ≡ any (k + k) (λ i. has x (8 * i + j))
laid_any k x j =
    any_same _ _ k (λ i l. has_or x (x / 2 ^ (8 * k)) (8 * i + j) ∙ ap (λ (t : Bool). has x (8 * i + j) || t) (has_shr x (8 * k) (8 * i + j) ∙ ap (has x) (omega arith)))
    ∙ sym (any_or (λ i. has x (8 * i + j)) (λ i. has x (8 * (k + i) + j)) k)
    ∙ sym (any_add (λ i. has x (8 * i + j)) k k)

abbrev pub joined : ℕ → ℕ
joined x = laid 1 (laid 2 (laid 4 x))

joined_any : (x j : ℕ) → has (joined x) j ≡ any 8 (λ i. has x (8 * i + j))
unfolding any
joined_any x j = ap (has (joined x)) (omega arith) ∙ laid_any 1 (laid 2 (laid 4 x)) j ∙ laid_any 2 (laid 4 x) j ∙ laid_any 4 x j

pub folded_is : (x : ℕ) → bit_and (joined x) 255 ≡ mask 8 (λ j. any 8 (λ i. has x (8 * i + j)))
folded_is x =
    mask_is 8 _ (bit_and (joined x) 255) (omega (arith, and_le_r (joined x) 255))
    (λ j l. ap (λ (b : ℕ). eqb b 1) (ap (bit j) (and_mask (joined x) 8) ∙ bit_mod j 8 (joined x) l) ∙ joined_any x j)

-- bytes kept whole or left out, and laid over each other
pub led_is : (bits m s : ℕ) → s ≡ mask 64 (λ k. has m (k / 8)) → mask 8 (λ j. any 8 (λ i. has (bit_and bits s) (8 * i + j))) ≡ led bits m
led_is bits m s is =
    let kept : (i j : ℕ) → i < 8 → j < 8 → has s (8 * i + j) ≡ has m i = λ i j h l.
    let byte : (8 * i + j) / 8 ≡ i = omega arith in
    ap (λ (n : ℕ). has n (8 * i + j)) is ∙ mask_has 64 (λ k. has m (k / 8)) (8 * i + j) (omega arith) ∙ ap (has m) byte in
    mask_same 8 _ _ (λ j l. any_same _ _ 8 (λ i h. has_and bits s (8 * i + j) ∙ ap (λ (t : Bool). has bits (8 * i + j) && t) (kept i j h l)))
