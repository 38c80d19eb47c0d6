-- What the partial wiring by value stands for: a number of inputs and the list of choice bytes placed so far. And what it
-- answers, in terms of that list.
use Rattle.std.specs.Prelude.{ℕ, zero, suc, ◌+◌, ◌-◌, ◌*◌, ◌/◌, ◌%◌, ◌≤◌, ◌<◌, ◌≡◌, Bool, true, cond, not, ◌&&◌, ◌||◌, ltb, eqb, length, get_or, drop}
use mathlib.Core.List.{List, [], ◌∷◌, flat_map}
use Rattle.std.specs.declared.option.Option.{Option}
use Rattle.std.specs.declared.option.Option.TheVariants.{None, Some}
use Rattle.bits.specs.Bits.{has, mask, any}
use Rattle.cubes.specs.Cubes.{cube_names}
use Rattle.rules.specs.Lists.{first, passed_over}
use Rattle.rules.specs.Rules.{follows}
use Rattle.wirings.specs.Wirings.{input_of, inverted, choices_from, is_choice, free_choice, straight}
use Rattle.wirings.specs.Pairs.{carried_pos, carried_neg, unplaced, unused, unplaced_literal, dead, Pair, at_cube, cube_pairs, list_pairs, pair_test}
use Rattle.partial.specs.declared.Masks.{Masks}
use Rattle.partial.specs.declared.Carried.{Carried}
use Rattle.partial.specs.declared.Pair.{Pair as PairFound}

-- ---- the wiring

-- choice bytes as one number, the first lowest, and back
unfoldable pub as_number : List ℕ → ℕ
as_number [] = 0
as_number (b ∷ w) = b + 256 * as_number w

unfoldable pub as_bytes : ℕ → ℕ → List ℕ
as_bytes zero c = []
as_bytes (suc k) c = c % 256 ∷ as_bytes k (c / 256)

-- input i is placed, and its choice is inverted; for k = 8·i + j, it is placed, and input j of g serves it
abbrev pub inverts : List ℕ → ℕ → Bool
inverts w i = ltb i (length w) && inverted (get_or w i 0)

abbrev pub serves : List ℕ → ℕ → Bool
serves w k = ltb (k / 8) (length w) && eqb (k % 8) (input_of (get_or w (k / 8) 0))

-- the partial wiring of n inputs with the choices w
unfoldable pub partial : ℕ → List ℕ → Masks
partial n w = record {
  n = n;
  depth = length w;
  unplaced = mask n (unplaced w);
  free = mask n (unused w);
  inverted = mask 8 (inverts w);
  choices = as_number w;
  bits = mask 64 (serves w);
}

-- n is at most 8, and the rule of 01 allows the choices
pub record StandsFor (r : Masks) (n : ℕ) (w : List ℕ) : Type 0 where
  pub is : r ≡ partial n w
  pub few : n ≤ 8
  pub allowed : follows (straight n) [] w ≡ true

-- the choices that a wiring has
abbrev pub prefix : Masks → List ℕ
prefix r = as_bytes r.depth r.choices

abbrev pub Formed : Masks → Type 0
Formed r = StandsFor r r.n (prefix r)

-- a byte is a choice of n inputs whose input of g is free
abbrev pub may_place : Masks → ℕ → Bool
may_place r b = is_choice r.n b && free_choice (prefix r) b

-- the first place from c on, in the order of choices, whose choice may follow w; 2n if there is none
unfoldable pub offer_from : ℕ → List ℕ → ℕ → ℕ
offer_from n w c = c + passed_over (free_choice w) (drop c (choices_from 0 n))

-- ---- where literals go

-- the choice for the input, turned round if the literal is negated
unfoldable pub located : List ℕ → ℕ → ℕ
located w literal =
    let b = get_or w (input_of literal) 0 in
    cond (inverted literal) (cond (inverted b) (b - 16) (b + 16)) b

-- the inputs of g that serve some of these inputs of f, where bit 8·i + j says whether input j serves input i
abbrev pub led : ℕ → ℕ → ℕ
led bits inputs = mask 8 (λ j. any 8 (λ i. has bits (8 * i + j) && has inputs i))

-- a cube carried over: what its placed literals ask of the inputs of g, and where one not yet placed may come to stand
unfoldable pub carried : ℕ → List ℕ → ℕ → ℕ → Carried
carried n w P N = record {
  pos = carried_pos w P N;
  neg = carried_neg w P N;
  free = cond (unplaced_literal n w P N) (mask n (unused w)) 0;
}

-- a placed literal is the opposite of a literal of the cube of g
unfoldable pub opposes : Carried → ℕ → ℕ → Bool
opposes c P' N' = any 8 (λ j. has c.pos j && has N' j || has c.neg j && has P' j)

-- no placed literal is, and none not yet placed may come to be
unfoldable pub clears : Carried → ℕ → ℕ → Bool
clears c P' N' = not (opposes c P' N' || any 8 (λ j. has c.free j && cube_names P' N' j))

-- ---- the first dead pair

-- a pair as the struct that holds it
unfoldable pub found : Option Pair → Option PairFound
found None = None
found (Some p) = Some (record { s = p.0; u = p.1; v = p.2 })

-- as in accepted records: two lists, and at most 64 cubes in each
pub record Few (r : PairFound) : Type 0 where
  pub list : r.s ≤ 1
  pub first : r.u < 64
  pub second : r.v < 64

-- of a carried cube, cube u of list s, with a list m of g; and of a list l of f with it
unfoldable pub row : Carried → List ℕ → ℕ → ℕ → Option Pair
row c m s u = first (λ p. at_cube (clears c) m p.2) (cube_pairs m s u)

unfoldable pub rows : ℕ → List ℕ → List ℕ → List ℕ → ℕ → Option Pair
unfolding flat_map
rows n w l m s = first (pair_test (dead n w) l m) (list_pairs l m s)
