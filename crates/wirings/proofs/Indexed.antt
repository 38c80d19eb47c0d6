-- Cubes by their indices: cube u of a list is its bytes 2u and 2u + 1. So a test of the pairs to be kept apart is the test of the
-- cubes of the lists, each of the one with each of the other.
use Prim.Native.Nat.{ℕ, zero, suc, ◌+◌, ◌*◌}
use mathlib.Core.Path.{◌≡◌, refl, sym, ap, ap₂, ◌∙◌}
use mathlib.Core.Bool.{Bool, ◌||◌, or-false}
use mathlib.Core.List.{List, [], ◌∷◌}
use native.Mathlib.Omega.{arith}
use lib.ListN.{get_or}
use Rattle.cubes.specs.Cubes.{some_cube}
use Rattle.rules.specs.Lists.{run, upto, some_in}
use Rattle.rules.proofs.Lists.{In, map_in, flat_in, some_map, some_flat, some_same}
use Rattle.wirings.specs.Pairs.{cubes_in, at_cube, side, against, Pair, cube_pairs, list_pairs, pairs, pair_test, of_pair}

-- ---- the cubes of one list

-- a run from one number further on
some_later : (t : ℕ → Bool) (a n : ℕ) → some_in t (run (suc a) n) ≡ some_in (λ k. t (suc k)) (run a n)
unfolding run some_in
some_later t a zero = refl
some_later t a (suc n) = ap (λ (b : Bool). t (suc a) || b) (some_later t (suc a) n)

-- some cube passes exactly when one does by its index
pub by_index : (t : ℕ → ℕ → Bool) (l : List ℕ) → some_cube t l ≡ some_in (at_cube t l) (upto (cubes_in l))
unfolding some_cube run some_in
by_index t [] = refl
by_index t (P ∷ []) = refl
by_index t (P ∷ N ∷ l) =
    let k = cubes_in l in
    let all = P ∷ N ∷ l in
    let more : suc k ≡ cubes_in all = omega arith in
    let at : (i j : ℕ) → suc (suc i) ≡ j → get_or l i 0 ≡ get_or all j 0 = λ i j e. ap (λ (m : ℕ). get_or all m 0) e in
    ap (λ (b : Bool). t P N || b)
    (by_index t l
    ∙ some_same (at_cube t l) (λ u. at_cube t all (suc u)) (upto k) (λ u _. ap₂ t (at (2 * u) (2 * suc u) (omega arith)) (at (2 * u + 1) (2 * suc u + 1) (omega arith)))
    ∙ sym (some_later (at_cube t all) 0 k))
    ∙ ap (λ (m : ℕ). some_in (at_cube t all) (upto m)) more

-- ---- the pairs

-- some pair of two lists passes a test exactly when some cube of the one and some cube of the other do
list_pair : (t : ℕ → ℕ → ℕ → ℕ → Bool) (l m : List ℕ) (s : ℕ) → some_in (pair_test t l m) (list_pairs l m s) ≡ some_cube (λ P N. some_cube (t P N) m) l
list_pair t l m s =
    some_flat (pair_test t l m) (cube_pairs m s) (upto (cubes_in l))
    ∙ some_same _ (at_cube (λ P N. some_cube (t P N) m) l) (upto (cubes_in l))
    (λ u _. some_map (pair_test t l m) (λ v. (s, u, v)) (upto (cubes_in m)) ∙ sym (by_index (at_cube t l u) m))
    ∙ sym (by_index (λ P N. some_cube (t P N) m) l)

module _ (q : ℕ) (f g : List ℕ) where
  -- the pairs of list s
  abbrev pub of_side : ℕ → List Pair
  of_side s = list_pairs (side s f) (side (against q s) g) s

  -- of those, the test asks for their own list
  pub in_side : (s : ℕ) (p : Pair) → In p (of_side s) → p.0 ≡ s
  in_side s p i =
      let m = side (against q s) g in
      let x = flat_in (cube_pairs m s) p (upto (cubes_in (side s f))) i in
      ap (λ (p : Pair). p.0) (map_in (λ v. (s, x.0, v)) p (upto (cubes_in m)) x.2).2

  pub side_test : (t : ℕ → ℕ → ℕ → ℕ → Bool) (s : ℕ) (p : Pair) → In p (of_side s) → of_pair q f g t p ≡ pair_test t (side s f) (side (against q s) g) p
  side_test t s p i = ap (λ (k : ℕ). pair_test t (side k f) (side (against q k) g) p) (in_side s p i)

  -- some cube of f's list s and some cube of the list of g against it pass the test
  abbrev pub some_on : (ℕ → ℕ → ℕ → ℕ → Bool) → ℕ → Bool
  some_on t s = some_cube (λ P N. some_cube (t P N) (side (against q s) g)) (side s f)

  -- some pair passes a test exactly when some cubes of the lists do
  pub some_pair : (t : ℕ → ℕ → ℕ → ℕ → Bool) → some_in (of_pair q f g t) (pairs q f g) ≡ some_on t 0 || some_on t 1
  unfolding pairs some_in
  some_pair t = some_flat (of_pair q f g t) of_side (0 ∷ 1 ∷ []) ∙ ap₂ ◌||◌ (list 0) (or-false (some_in (of_pair q f g t) (of_side 1)) ∙ list 1)
    where
      list : (s : ℕ) → some_in (of_pair q f g t) (of_side s) ≡ some_on t s
      list s = some_same _ _ (of_side s) (side_test t s) ∙ list_pair t (side s f) (side (against q s) g) s
