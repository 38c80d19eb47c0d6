-- Choice bytes in one number, eight bits each: what a shift by 8·i finds, and what one byte more adds.
use Prim.Native.Nat.{ℕ, zero, suc, ◌+◌, ◌*◌, ◌/◌, ◌%◌, ◌^◌, ◌<◌}
use mathlib.Core.Path.{◌≡◌, refl, sym, ap, ap₂, ◌∙◌}
use mathlib.Core.List.{List, [], ◌∷◌}
use native.Mathlib.Nat.{mul_assoc, mul_comm, div-one}
use native.Mathlib.Omega.{arith}
use lib.ListN.{length, get_or}
use lib.Pow.{pow-add, shr-shr}
use Rattle.records.specs.Records.{Bytes}
use Rattle.partial.specs.Partial.{as_number, as_bytes}
use Rattle.rules.specs.Rules.{◌adding◌}

-- eight bits more
byte_up : (k : ℕ) → 2 ^ (8 * suc k) ≡ 256 * 2 ^ (8 * k)
byte_up k = ap (λ (m : ℕ). 2 ^ m) (omega arith) ∙ pow-add 2 8 (8 * k)

pub number_lt : (w : List ℕ) → Bytes w → as_number w < 2 ^ (8 * length w)
unfolding as_number
number_lt [] h = omega arith
number_lt (b ∷ w) h = omega (arith, byte_up (length w), h 0, number_lt w (λ i. h (suc i)))

pub number_add : (w : List ℕ) (b : ℕ) → as_number (w adding b) ≡ as_number w + b * 2 ^ (8 * length w)
unfolding as_number
number_add [] b = omega arith
number_add (a ∷ w) b =
    let up : b * 2 ^ (8 * suc (length w)) ≡ 256 * (b * 2 ^ (8 * length w)) =
    ap (λ (m : ℕ). b * m) (byte_up (length w)) ∙ sym (mul_assoc b 256 (2 ^ (8 * length w))) ∙ ap (λ (m : ℕ). m * 2 ^ (8 * length w)) (mul_comm b 256) ∙ mul_assoc 256 b (2 ^ (8 * length w)) in
    omega (arith, number_add w b, up)

pub number_at : (w : List ℕ) → Bytes w → (i : ℕ) → i < length w → as_number w / 2 ^ (8 * i) % 256 ≡ get_or w i 0
unfolding as_number
number_at [] h i l = absurd (omega (arith, l))
number_at (b ∷ w) h zero l = omega (arith, h 0, div-one (b + 256 * as_number w))
number_at (b ∷ w) h (suc i) l =
    let down : (b + 256 * as_number w) / 2 ^ 8 ≡ as_number w = omega (arith, h 0) in
    ap (λ (m : ℕ). (b + 256 * as_number w) / 2 ^ m % 256) (omega arith)
    ∙ ap (λ (m : ℕ). m % 256) (sym (shr-shr (b + 256 * as_number w) 8 (8 * i)) ∙ ap (λ (m : ℕ). m / 2 ^ (8 * i)) down)
    ∙ number_at w (λ j. h (suc j)) i (omega arith)

pub number_bytes : (w : List ℕ) → Bytes w → as_bytes (length w) (as_number w) ≡ w
unfolding as_number as_bytes
number_bytes [] h = refl
number_bytes (b ∷ w) h =
    ap₂ (λ (a : ℕ) (v : List ℕ). a ∷ v) (omega (arith, h 0)) (ap (as_bytes (length w)) (omega (arith, h 0)) ∙ number_bytes w (λ i. h (suc i)))
