-- Examples 2.1 and 3.2 of the 1995 paper, by computing from the definitions. Its inputs x1, x2, x3 are inputs 0, 1, 2.
use Prim.Native.Nat.{ℕ}
use mathlib.Core.Path.{◌≡◌, refl}
use mathlib.Core.Bool.{Bool, true, not, ◌&&◌}
use mathlib.Core.List.{List, [], ◌∷◌, flat_map}
use Rattle.std.specs.declared.option.Option.TheVariants.{Some}
use Rattle.bits.specs.Bits.{bit, number, any, every}
use Rattle.cubes.specs.Cubes.{some_cube, cube_holds}
use Rattle.rules.specs.Lists.{run, filter, first, some_in}
use Rattle.rules.specs.Rules.{completions}
use Rattle.records.specs.Records.{on_list, off_list}
use Rattle.wirings.specs.Wirings.{choices_from, inverted, wirings, choices, served, read_at, disagree_at, agrees, agreeing}
use Rattle.wirings.specs.Pairs.{separates, dead, side, against, pairs, first_dead}

-- example 2.1: f is on at x1' x2' and x1' x3, off at x1 x3; g is on at y1 y3', off at y1' y2
abbrev f_2_1 : List ℕ
f_2_1 = 0x46 ∷ 0x4E ∷ 3 ∷ 2 ∷ 1 ∷ 0 ∷ 3 ∷ 4 ∷ 1 ∷ 5 ∷ 0 ∷ []

abbrev g_2_1 : List ℕ
g_2_1 = 0x46 ∷ 0x4E ∷ 3 ∷ 1 ∷ 1 ∷ 1 ∷ 4 ∷ 2 ∷ 1 ∷ []

-- example 3.2: f is on at x1' x2' and x1 x2 x3, off at x2 x3' and x1 x3'; g is on at y1' y2, off at y3' y1 and y3 y1' y2'
abbrev f_3_2 : List ℕ
f_3_2 = 0x46 ∷ 0x4E ∷ 3 ∷ 2 ∷ 2 ∷ 0 ∷ 3 ∷ 7 ∷ 0 ∷ 2 ∷ 4 ∷ 1 ∷ 4 ∷ []

abbrev g_3_2 : List ℕ
g_3_2 = 0x46 ∷ 0x4E ∷ 3 ∷ 1 ∷ 2 ∷ 2 ∷ 1 ∷ 1 ∷ 4 ∷ 4 ∷ 3 ∷ []

-- no input is inverted
abbrev plain : List ℕ → Bool
plain v = not (some_in inverted (choices v))

pub record Worked : Type 0 where
  -- the paper's mapping of x1, x2, x3 to y2, y3, y1'
  pub mapping_2_1 : agrees 0 f_2_1 g_2_1 (0x01 ∷ 0x02 ∷ 0x10 ∷ []) ≡ true
  pub first_2_1 : first (agreeing f_2_1 g_2_1) (wirings 3) ≡ Some (0x00 ∷ 0x10 ∷ 0x01 ∷ 0x02 ∷ [])
  -- the paper's two assignments, of all without an inverter
  pub plain_3_2 : filter (λ v. plain v && agreeing f_3_2 g_3_2 v) (wirings 3) ≡ (0x00 ∷ 0x00 ∷ 0x02 ∷ 0x01 ∷ []) ∷ (0x00 ∷ 0x02 ∷ 0x00 ∷ 0x01 ∷ []) ∷ []
  pub first_3_2 : first (agreeing f_3_2 g_3_2) (wirings 3) ≡ Some (0x00 ∷ 0x00 ∷ 0x11 ∷ 0x02 ∷ [])
  -- with x1 at y1 and x2 at y2, x1' x2' and y3 y1' y2' can no longer be kept apart
  pub dead_3_2 : first_dead 3 0 f_3_2 g_3_2 (0x00 ∷ 0x01 ∷ []) ≡ Some (0, 0, 1)

pub worked : Worked
unfolding bit number any every cube_holds some_cube on_list off_list run filter first some_in flat_map completions choices_from wirings served read_at disagree_at agrees separates dead side against pairs first_dead
worked = record { mapping_2_1 = refl; first_2_1 = refl; plain_3_2 = refl; first_3_2 = refl; dead_3_2 = refl }
