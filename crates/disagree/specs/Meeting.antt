-- Where two lists of cubes meet through a wiring, on patterns of g.
use Rattle.std.specs.Prelude.{ℕ, ◌^◌, Bool, ◌&&◌, List}
use Rattle.std.specs.declared.option.Option.{Option}
use Rattle.bits.specs.Bits.{smallest}
use Rattle.cubes.specs.Cubes.{cube_holds, some_cube, some_holds}
use Rattle.wirings.specs.Pairs.{carried_pos, carried_neg}

-- some cube of the list l of f, carried over by the choices w, holds y
abbrev pub some_carried : List ℕ → List ℕ → ℕ → Bool
some_carried w l y = some_cube (λ P N. cube_holds (carried_pos w P N) (carried_neg w P N) y) l

-- the smallest pattern that one of them shares with a cube of the list m of g
unfoldable pub meeting : List ℕ → List ℕ → List ℕ → Option ℕ
meeting w l m = smallest (2 ^ 8) (λ y. some_carried w l y && some_holds m y)
