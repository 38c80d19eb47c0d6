-- The bytes of a number, the lowest first: how characters that are read at once stand in one number.
use Rattle.std.specs.Prelude.{ℕ, zero, suc, ◌/◌, ◌%◌, List, [], ◌∷◌}

-- the k lowest bytes of x
unfoldable pub bytes : ℕ → ℕ → List ℕ
bytes zero x = []
bytes (suc k) x = x % 256 ∷ bytes k (x / 256)
