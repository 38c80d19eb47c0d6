-- The choices are stored byte by byte, the lowest first, and the number is divided.
use Rattle.std.proofs.Common.{◌≡◌, ℕ, suc, ◌+◌, ◌-◌, ◌/◌, ◌%◌, ◌≤◌, ◌<◌, List, refl, set, arith}
use Rattle.std.proofs.lemmas.List.Edits.{sets}
use Rattle.partial.specs.Partial.{as_bytes}

-- the lowest byte is stored, and then come those of what is left of the number
pub low_next : (l : List ℕ) (end at x : ℕ) → at < end → sets (set l at (x % 256)) (at + 1) (as_bytes (end - (at + 1)) (x / 256)) ≡ sets l at (as_bytes (end - at) x)
unfolding as_bytes
low_next l end at x h =
    let next : at + 1 ≡ suc at = omega arith in
    let left : end - at ≡ suc (end - suc at) = omega arith in
    rw (next, left) refl

pub low_last : (l : List ℕ) (end at x : ℕ) → end ≤ at → sets l at (as_bytes (end - at) x) ≡ l
unfolding as_bytes
low_last l end at x h = let none : end - at ≡ 0 = omega arith in rw none refl

pub ruleset low_bytes = (low_next, low_last)
