-- The first LF among the bytes of a number, by marks: the top bits of the bytes that are LF. The idea: every operator of the
-- code goes byte by byte, since the one sum has no carry (127 + 127 is below 256). So what it makes of a number is what it
-- makes of the lowest byte, below what it makes of the others, and a byte alone is decided by computing all 256.
use Prim.Native.Nat.{ℕ, zero, suc, ◌+◌, ◌*◌, ◌/◌, ◌%◌, ◌^◌, ◌<◌}
use mathlib.Core.Path.{◌≡◌, refl, ap, ap₂, ◌∙◌}
use mathlib.Core.Bool.{Bool, true, false, cond}
use mathlib.Core.List.{List}
use native.Mathlib.Nat.{div-div-eq-div-mul, mod-lt, zero-lt-suc}
use native.Mathlib.Omega.{arith}
use borrow.Author.Tests.{eqb-true}
use lib.Bits.{bit_and, bit_or, bit_xor, and_block, or_block, xor_block}
use lib.Bits.{and_le_r, and_lt, or_lt, xor_lt, shifted_half, shifted_even}
use lib.Count.{count_trailing_zeros, under}
use lib.Dec.{eqb}
use lib.ListN.{length, get_or}
use Rattle.std.specs.Int.{w64, from_le_bytes}
use Rattle.std.proofs.lemmas.Nat.{le_bytes_8}
use Rattle.bits.specs.Bits.{every}
use Rattle.bits.proofs.Below.{every_at}
use Rattle.rules.specs.Lists.{passed_over}
use Rattle.words.specs.Words.{is_lf}
use Rattle.words.specs.Eight.{bytes}

-- ---- the marks

-- the byte c, k times
unfoldable pub repeated : ℕ → ℕ → ℕ
repeated c zero = 0
repeated c (suc k) = repeated c k * 256 + c

-- what the code makes of x, with LF, 127 and 128 repeated
abbrev turned : (low top y : ℕ) → ℕ
turned low top y = bit_xor (bit_and (bit_or (bit_and y low + low) y) top) top

abbrev pub marks : (lf low top x : ℕ) → ℕ
marks lf low top x = turned low top (bit_xor x lf)

-- the lowest byte and the others do not meet
module _ (l s t h b : ℕ) (small : b < 256) where
  abbrev y : ℕ
  y = bit_xor h l

  abbrev z : ℕ
  z = bit_xor b 10

  z_lt : z < 256
  z_lt = xor_lt 8 b 10 small (omega arith)

  sum_lt : bit_and z 127 + 127 < 256
  sum_lt = omega (arith, and_le_r z 127)

  marks_step : marks (l * 256 + 10) (s * 256 + 127) (t * 256 + 128) (h * 256 + b) ≡ marks l s t h * 256 + marks 10 127 128 b
  marks_step =
      ap (turned (s * 256 + 127) (t * 256 + 128)) (xor_block 8 h l b 10 small (omega arith))
      ∙ ap (λ (n : ℕ). bit_xor (bit_and (bit_or n (y * 256 + z)) (t * 256 + 128)) (t * 256 + 128)) sum
      ∙ ap (λ (n : ℕ). bit_xor (bit_and n (t * 256 + 128)) (t * 256 + 128))
      (or_block 8 (bit_and y s + s) y (bit_and z 127 + 127) z sum_lt z_lt)
      ∙ ap (λ (n : ℕ). bit_xor n (t * 256 + 128)) (and_block 8 (bit_or (bit_and y s + s) y) t or_low 128 or_low_lt (omega arith))
      ∙ xor_block 8 (bit_and (bit_or (bit_and y s + s) y) t) t (bit_and or_low 128) 128
      (and_lt 8 or_low 128 or_low_lt (omega arith)) (omega arith)
    where
      sum : bit_and (y * 256 + z) (s * 256 + 127) + (s * 256 + 127) ≡ (bit_and y s + s) * 256 + (bit_and z 127 + 127)
      sum = ap (λ (n : ℕ). n + (s * 256 + 127)) (and_block 8 y s z 127 z_lt (omega arith)) ∙ omega arith

      or_low : ℕ
      or_low = bit_or (bit_and z 127 + 127) z

      or_low_lt : or_low < 256
      or_low_lt = or_lt 8 (bit_and z 127 + 127) z sum_lt z_lt

-- one byte
byte_marked : (b : ℕ) → b < 256 → marks 10 127 128 b ≡ cond (eqb b 10) 128 0
unfolding every
byte_marked b h = eqb-true _ _ (every_at (λ b. eqb (marks 10 127 128 b) (cond (eqb b 10) 128 0)) 256 all b h)
  where
    all : every 256 (λ b. eqb (marks 10 127 128 b) (cond (eqb b 10) 128 0)) ≡ true
    all = refl

-- ---- the first mark

zeros_shl : (j n m : ℕ) → count_trailing_zeros (j + n) (m * 2 ^ j) ≡ j + count_trailing_zeros n m
unfolding count_trailing_zeros
zeros_shl zero n m =
    let none : 0 + n ≡ n = omega arith in
    let whole : m * 2 ^ 0 ≡ m = omega arith in
    ap₂ count_trailing_zeros none whole ∙ omega arith
zeros_shl (suc j) n m =
    let one : suc j + n ≡ suc (j + n) = omega arith in
    let step = ap₂ under (shifted_even m j) (ap (count_trailing_zeros (j + n)) (shifted_half m j) ∙ zeros_shl j n m) in
    ap (λ (i : ℕ). count_trailing_zeros i (m * 2 ^ suc j)) one ∙ step ∙ omega arith

zeros_odd : (n m : ℕ) → count_trailing_zeros (suc n) (m * 2 + 1) ≡ 0
unfolding count_trailing_zeros
zeros_odd n m =
    let odd : (m * 2 + 1) % 2 ≡ 1 = omega arith in
    ap (λ (d : ℕ). under d (count_trailing_zeros n ((m * 2 + 1) / 2))) odd

pub first_mark : (k x : ℕ)
    → count_trailing_zeros (8 * k) (marks (repeated 10 k) (repeated 127 k) (repeated 128 k) x) / 8 ≡ passed_over is_lf (bytes k x)
unfolding count_trailing_zeros passed_over bytes repeated
first_mark zero x = refl
first_mark (suc k) x =
    let m = marks (repeated 10 k) (repeated 127 k) (repeated 128 k) (x / 256) in
    let b = x % 256 in
    let small : b < 256 = mod-lt x (zero-lt-suc 255) in
    let whole : x ≡ x / 256 * 256 + b = omega arith in
    let step : marks (repeated 10 (suc k)) (repeated 127 (suc k)) (repeated 128 (suc k)) x ≡ m * 256 + cond (eqb b 10) 128 0 =
    ap (marks (repeated 10 (suc k)) (repeated 127 (suc k)) (repeated 128 (suc k))) whole
    ∙ marks_step (repeated 10 k) (repeated 127 k) (repeated 128 k) (x / 256) b small
    ∙ ap (λ (n : ℕ). m * 256 + n) (byte_marked b small) in
    let eight : 8 * suc k ≡ 8 + 8 * k = omega arith in
    ap₂ (λ (n m : ℕ). count_trailing_zeros n m / 8) eight step ∙ go m (eqb b 10) (first_mark k (x / 256))
  where
    go : (m : ℕ) (t : Bool) → count_trailing_zeros (8 * k) m / 8 ≡ passed_over is_lf (bytes k (x / 256))
        → count_trailing_zeros (8 + 8 * k) (m * 256 + cond t 128 0) / 8 ≡ cond t 0 (suc (passed_over is_lf (bytes k (x / 256))))
    go m true e =
        let bits : 8 + 8 * k ≡ 7 + suc (8 * k) = omega arith in
        let shifted : m * 256 + 128 ≡ (m * 2 + 1) * 2 ^ 7 = omega arith in
        omega (arith, ap₂ count_trailing_zeros bits shifted ∙ zeros_shl 7 (suc (8 * k)) (m * 2 + 1), zeros_odd (8 * k) m)
    go m false e =
        let shifted : m * 256 + 0 ≡ m * 2 ^ 8 = omega arith in
        omega (arith, ap (count_trailing_zeros (8 + 8 * k)) shifted ∙ zeros_shl 8 (8 * k) m, e)

-- ---- eight bytes read as one number

pub bytes_read : (l : List ℕ) (x : ℕ) → length l ≡ 8 → ((i : ℕ) → get_or l i 0 < 256) → x ≡ from_le_bytes w64 l → bytes 8 x ≡ l
unfolding bytes
bytes_read l x h small read = simp div-div-eq-div-mul (le_bytes_8 l x h small read)
