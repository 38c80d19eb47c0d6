-- Wirings in the words of document 01: choice bytes, every wiring in order, reading f through a wiring, and agreement.
-- A function is its record, the list of its bytes; a wiring is written as in a match claim: q, then a choice byte for each
-- input of f.
use Rattle.std.specs.Prelude.{ℕ, zero, suc, ◌+◌, ◌-◌, ◌*◌, ◌/◌, ◌%◌, ◌^◌, Bool, true, false, cond, not, ◌&&◌, ◌||◌, leb, ltb, eqb, length, get_or, drop}
use mathlib.Core.List.{List, [], ◌∷◌, map, flat_map}
use Rattle.std.specs.declared.option.Option.{Option}
use Rattle.bits.specs.Bits.{bit, number, any, smallest}
use Rattle.cubes.specs.Cubes.{some_holds}
use Rattle.rules.specs.Lists.{some_in, each_in}
use Rattle.rules.specs.Rules.{Rule, completions}
use Rattle.records.specs.Records.{inputs, on_list, off_list}

-- ---- choice bytes: j if plain, j + 16 if inverted

abbrev pub input_of : ℕ → ℕ
input_of b = b % 16

abbrev pub inverted : ℕ → Bool
inverted b = leb 16 b

-- the choices among k inputs from j on, by j upward, plain before inverted
unfoldable pub choices_from : ℕ → ℕ → List ℕ
choices_from j zero = []
choices_from j (suc k) = j ∷ (j + 16) ∷ choices_from (suc j) k

-- the choice at place c of that order
abbrev pub choice_at : ℕ → ℕ
choice_at c = c / 2 + 16 * (c % 2)

-- some choice of w uses input j of g
abbrev pub uses : List ℕ → ℕ → Bool
uses w j = some_in (λ b. eqb (input_of b) j) w

-- 01's rule for n inputs: every choice in order, and no input of g is used twice
abbrev pub free_choice : List ℕ → ℕ → Bool
free_choice w b = not (uses w (input_of b))

abbrev pub straight : ℕ → Rule
straight n = record { bytes = choices_from 0 n; may = free_choice }

-- ---- what a wiring is: q is 0 or 1, each input of f has its own input of g, plain or inverted, and no two share one

abbrev pub is_choice : ℕ → ℕ → Bool
is_choice n b = ltb b n || leb 16 b && ltb b (16 + n)

unfoldable pub apart : List ℕ → Bool
apart [] = true
apart (b ∷ w) = not (uses w (input_of b)) && apart w

unfoldable pub is_wiring : ℕ → List ℕ → Bool
is_wiring n [] = false
is_wiring n (q ∷ w) = ltb q 2 && eqb (length w) n && each_in (is_choice n) w && apart w

-- where a choice stands in the order: by j upward, plain before inverted
abbrev pub rank : ℕ → ℕ
rank b = 2 * input_of b + cond (inverted b) 1 0

-- ---- every wiring of n inputs, in order: q = 0 before q = 1, then by the choice for input 0, then input 1 and so on

unfoldable pub wirings : ℕ → List (List ℕ)
unfolding flat_map
wirings n = flat_map (λ q. map (λ (w : List ℕ). q ∷ w) (completions (straight n) n [])) (0 ∷ 1 ∷ [])

abbrev pub phase : List ℕ → ℕ
phase v = get_or v 0 0

abbrev pub choices : List ℕ → List ℕ
choices v = drop 1 v

-- ---- reading f: at a pattern y of g, f is read at the x whose bit i is bit j of y, inverted if so marked

unfoldable pub served : ℕ → ℕ → ℕ
served y b = cond (inverted b) (1 - bit (input_of b) y) (bit (input_of b) y)

unfoldable pub read_at : List ℕ → ℕ → ℕ
read_at w y = number (length w) (λ i. served y (get_or w i 0))

-- ---- agreement, on patterns

abbrev pub is_on : List ℕ → ℕ → Bool
is_on f x = some_holds (on_list f) x

abbrev pub is_off : List ℕ → ℕ → Bool
is_off f x = some_holds (off_list f) x

-- at a pattern y of g, with f read at x: with q = 0, one is on and the other off; with q = 1, both are on or both off
unfoldable pub disagree_at : ℕ → List ℕ → List ℕ → ℕ → ℕ → Bool
disagree_at zero f g x y = is_on f x && is_off g y || is_off f x && is_on g y
disagree_at (suc q) f g x y = is_on f x && is_on g y || is_off f x && is_off g y

-- no pattern y of g is such
unfoldable pub agrees : ℕ → List ℕ → List ℕ → List ℕ → Bool
agrees q f g w = not (any (2 ^ inputs g) (λ y. disagree_at q f g (read_at w y) y))

-- the smallest pattern y of g that is such, if there is one
unfoldable pub disagreement : ℕ → List ℕ → List ℕ → List ℕ → Option ℕ
disagreement q f g w = smallest (2 ^ inputs g) (λ y. disagree_at q f g (read_at w y) y)

-- of a wiring with its phase
abbrev pub agreeing : List ℕ → List ℕ → List ℕ → Bool
agreeing f g v = agrees (phase v) f g (choices v)
