-- Pairs of cubes to be kept apart, in the words of document 01: separated, and dead. P and N are the cube of f, P' and N'
-- the cube of g.
use Rattle.std.specs.Prelude.{ℕ, ◌+◌, ◌-◌, ◌*◌, ◌/◌, Bool, cond, not, ◌&&◌, ◌||◌, leb, eqb, length, get_or}
use mathlib.Core.List.{List, [], ◌∷◌, map, flat_map}
use Rattle.std.specs.declared.option.Option.{Option}
use Rattle.bits.specs.Bits.{has, mask, any}
use Rattle.cubes.specs.Cubes.{cube_names}
use Rattle.rules.specs.Lists.{upto, first}
use Rattle.records.specs.Records.{on_list, off_list}
use Rattle.wirings.specs.Wirings.{input_of, inverted, uses}

-- ---- separated: some literal of the one, carried over, is the opposite of a literal of the other

-- a literal of the cube on input i, carried over by choice b, asks for 1, or for 0
abbrev pub asks_one : ℕ → ℕ → ℕ → ℕ → Bool
asks_one b P N i = cond (inverted b) (has N i) (has P i)

abbrev pub asks_zero : ℕ → ℕ → ℕ → ℕ → Bool
asks_zero b P N i = cond (inverted b) (has P i) (has N i)

-- and the cube of g asks the opposite there
abbrev pub opposed : ℕ → ℕ → ℕ → ℕ → ℕ → ℕ → Bool
opposed b P N P' N' i = asks_one b P N i && has N' (input_of b) || asks_zero b P N i && has P' (input_of b)

-- some placed literal separates the cubes; of a whole wiring, the wiring does
unfoldable pub separates : List ℕ → ℕ → ℕ → ℕ → ℕ → Bool
separates w P N P' N' = any (length w) (λ i. opposed (get_or w i 0) P N P' N' i)

-- ---- a cube carried over, as masks: the inputs of g that its placed literals ask to be 1, and those they ask to be 0

-- some placed literal, carried over to input j of g, asks so
abbrev pub lands : (ℕ → ℕ → ℕ → ℕ → Bool) → List ℕ → ℕ → ℕ → ℕ → Bool
lands asks w P N j = any (length w) (λ i. eqb j (input_of (get_or w i 0)) && asks (get_or w i 0) P N i)

abbrev pub carried_pos : List ℕ → ℕ → ℕ → ℕ
carried_pos w P N = mask 8 (lands asks_one w P N)

abbrev pub carried_neg : List ℕ → ℕ → ℕ → ℕ
carried_neg w P N = mask 8 (lands asks_zero w P N)

-- ---- dead: no placed literal separates the cubes, and the cube of f has no literal on an unplaced input or the cube of g
-- none on an unused one

abbrev pub unplaced : List ℕ → ℕ → Bool
unplaced w i = leb (length w) i

abbrev pub unused : List ℕ → ℕ → Bool
unused w j = not (uses w j)

abbrev pub unplaced_literal : ℕ → List ℕ → ℕ → ℕ → Bool
unplaced_literal n w P N = any n (λ i. unplaced w i && cube_names P N i)

abbrev pub unused_literal : ℕ → List ℕ → ℕ → ℕ → Bool
unused_literal n w P' N' = any n (λ j. unused w j && cube_names P' N' j)

unfoldable pub dead : ℕ → List ℕ → ℕ → ℕ → ℕ → ℕ → Bool
dead n w P N P' N' = not (separates w P N P' N') && (not (unplaced_literal n w P N) || not (unused_literal n w P' N'))

-- ---- the pairs to be kept apart under q, as s, u, v: cube u of f's on list (s = 0) or off list (s = 1), and cube v of the
-- list of g from which it must be kept apart

abbrev pub cubes_in : List ℕ → ℕ
cubes_in l = length l / 2

-- what a function of cubes gives for cube k of a list
abbrev pub at_cube : {A : Type 0} → (ℕ → ℕ → A) → List ℕ → ℕ → A
at_cube t l k = t (get_or l (2 * k) 0) (get_or l (2 * k + 1) 0)

unfoldable pub side : ℕ → List ℕ → List ℕ
side s f = cond (eqb s 0) (on_list f) (off_list f)

-- with q = 0, on against off and off against on; with q = 1, on against on and off against off
unfoldable pub against : ℕ → ℕ → ℕ
against q s = cond (eqb q 0) (1 - s) s

abbrev pub Pair : Type 0
Pair = ℕ × ℕ × ℕ

-- the pairs of cube u of list s with a list m of g, of each cube of a list l with it, and all of them, in order of s, u, v
abbrev pub cube_pairs : List ℕ → ℕ → ℕ → List Pair
cube_pairs m s u = map (λ v. (s, u, v)) (upto (cubes_in m))

abbrev pub list_pairs : List ℕ → List ℕ → ℕ → List Pair
list_pairs l m s = flat_map (cube_pairs m s) (upto (cubes_in l))

unfoldable pub pairs : ℕ → List ℕ → List ℕ → List Pair
unfolding flat_map
pairs q f g = flat_map (λ s. list_pairs (side s f) (side (against q s) g) s) (0 ∷ 1 ∷ [])

-- a test of two cubes, of a pair of two lists, and of a pair s, u, v of f and g
abbrev pub pair_test : (ℕ → ℕ → ℕ → ℕ → Bool) → List ℕ → List ℕ → Pair → Bool
pair_test t l m p = at_cube (at_cube t l p.1) m p.2

abbrev pub of_pair : ℕ → List ℕ → List ℕ → (ℕ → ℕ → ℕ → ℕ → Bool) → Pair → Bool
of_pair q f g t p = pair_test t (side p.0 f) (side (against q p.0) g) p

-- the first dead pair, in order of s, u, v
unfoldable pub first_dead : ℕ → ℕ → List ℕ → List ℕ → List ℕ → Option Pair
first_dead n q f g w = first (of_pair q f g (dead n w)) (pairs q f g)
