-- Patterns and cubes, in the words of document 01. A pattern is a number; input i has the value of bit i. A cube is two
-- masks, P and N, of one byte each, so that it can name inputs 0 to 7. A list of cubes is the bytes that it is written in,
-- P then N of each cube.
use Rattle.std.specs.Prelude.{ℕ, ◌+◌, ◌^◌, Bool, false, not, ◌&&◌, ◌||◌, List, [], ◌∷◌, leb}
use Rattle.std.specs.declared.option.Option.{Option}
use Rattle.bits.specs.Bits.{bit, has, every, any, count, smallest}

-- input i of pattern x is as the cube P, N asks: 1 if it is in P, 0 if it is in N
abbrev pub meets : ℕ → ℕ → ℕ → ℕ → Bool
meets P N x i = leb (bit i P) (bit i x) && leb (bit i N + bit i x) 1

-- the cube holds pattern x: every input of P is 1 in x, and every input of N is 0
unfoldable pub cube_holds : ℕ → ℕ → ℕ → Bool
cube_holds P N x = every 8 (meets P N x)

-- the cube names input i: it is in one of the masks
abbrev pub cube_names : ℕ → ℕ → ℕ → Bool
cube_names P N i = has P i || has N i

-- two cubes share a pattern of n inputs
unfoldable pub cubes_share : ℕ → ℕ → ℕ → ℕ → ℕ → Bool
cubes_share n P N P' N' = any (2 ^ n) (λ x. cube_holds P N x && cube_holds P' N' x)

-- and the smallest one that they share
unfoldable pub least_shared : ℕ → ℕ → ℕ → ℕ → ℕ → Option ℕ
least_shared n P N P' N' = smallest (2 ^ n) (λ x. cube_holds P N x && cube_holds P' N' x)

-- some cube of the list passes the test
unfoldable pub some_cube : (ℕ → ℕ → Bool) → List ℕ → Bool
some_cube t [] = false
some_cube t (P ∷ []) = false
some_cube t (P ∷ N ∷ rest) = t P N || some_cube t rest

-- some cube of the list holds pattern x: of a function's on list, it is on at x; of its off list, off
abbrev pub some_holds : List ℕ → ℕ → Bool
some_holds cubes x = some_cube (λ P N. cube_holds P N x) cubes

-- the smallest pattern of n inputs that the cube shares with any cube of the list
unfoldable pub least_with : ℕ → ℕ → ℕ → List ℕ → Option ℕ
least_with n P N cubes = smallest (2 ^ n) (λ x. cube_holds P N x && some_holds cubes x)

-- a function with these two lists is open at x: neither on nor off
abbrev pub open_at : List ℕ → List ℕ → ℕ → Bool
open_at on off x = not (some_holds on x) && not (some_holds off x)

-- the number of patterns of n inputs that some cube of the list holds, each counted once
unfoldable pub patterns_held : ℕ → List ℕ → ℕ
patterns_held n cubes = count (2 ^ n) (some_holds cubes)

-- the number of inputs in use: those that some cube of either list names
unfoldable pub inputs_used : List ℕ → List ℕ → ℕ
inputs_used on off = count 8 (λ i. some_cube (λ P N. cube_names P N i) on || some_cube (λ P N. cube_names P N i) off)
