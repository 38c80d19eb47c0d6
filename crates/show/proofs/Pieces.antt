-- One piece after another.
use Rattle.std.proofs.Common.{ℕ, List, ◌++◌, OnOk, Result, Ok, Err}
use Rattle.std.specs.declared.option.Option.{Option}
use Rattle.std.specs.Io.KnownBytes.{Appends}
use Rattle.std.proofs.KnownBytes.{Appends-trans}

-- the last piece, if it was written
pub then_last : {V E : Type 0} (r : Result V E) (a b c : Option (List ℕ)) (bs cs : List ℕ) → Appends a b bs → OnOk r (Appends b c cs) → OnOk r (Appends a c (bs ++ cs))
then_last (Ok v) a b c bs cs p q = Appends-trans a b c bs cs p q
then_last (Err e) a b c bs cs p q = tt
