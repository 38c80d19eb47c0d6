-- How the code keeps cubes and patterns: a list as pairs of masks, a pattern that is shared as a number.
use Rattle.std.specs.Prelude.{ℕ, List, [], ◌∷◌}
use Rattle.std.specs.declared.option.Option.{Option}
use Rattle.std.specs.declared.option.Option.TheVariants.{None, Some}

-- the cubes of a list, each as P and N; a byte that is left over belongs to none
unfoldable pub in_pairs : List ℕ → List (List ℕ)
in_pairs [] = []
in_pairs (P ∷ []) = []
in_pairs (P ∷ N ∷ rest) = (P ∷ N ∷ []) ∷ in_pairs rest

-- a pattern, or 256 for none: the code compares these
unfoldable pub number_of : Option ℕ → ℕ
number_of None = 256
number_of (Some x) = x
