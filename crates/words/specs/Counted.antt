-- A number as the code keeps it.
use Rattle.std.specs.Prelude.{ℕ, min, cond, List}
use Rattle.std.specs.declared.option.Option.{Option}
use Rattle.std.specs.declared.option.Option.TheVariants.{None, Some}
use Rattle.words.specs.Words.{is_number, value}

-- the largest number that is told apart from the others
abbrev pub most : ℕ
most = 18446744073709551610

-- a word's number, or none
unfoldable pub counted : List ℕ → Option ℕ
counted w = cond (is_number w) (Some (min (value w) most)) None
