-- What a failure says.
use Rattle.std.specs.Prelude.{⊤}
use Rattle.input.specs.declared.Failure.{Failure}
use Rattle.input.specs.declared.Failure.TheVariants.{Input, Output}

-- a read failed
abbrev pub IsInput : Failure → Type 0
IsInput (Input e) = ⊤
IsInput (Output e) = ⊥
