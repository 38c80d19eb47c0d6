-- The number of the first dead pair, by what the two tests before it come to.
use Rattle.std.proofs.Common.{ℕ, ◌≡◌, refl, Bool, true, false, cond, List, [], Ok, Err}
use Rattle.std.specs.declared.result.Result.{Result}
use lib.Dec.{eqb}
use Rattle.answers.specs.declared.Answer.{Answer}
use Rattle.answers.specs.declared.Fault.{Fault}
use Rattle.answers.specs.Answers.{is_sound}
use Rattle.answers.specs.Verdicts.{verdict, unless_refused}
use Rattle.records.specs.Records.{inputs, both_read}
use Rattle.wirings.specs.Pairs.{first_dead}
use Rattle.partial.specs.Partial.{found}
use Rattle.checker.specs.Checking.{choices_fault}
use Rattle.probe.specs.Probe.{pair_number, dead_number}

abbrev pub dead_as : Result (Unit {0}) Answer → Result (Unit {0}) Fault → ℕ → ℕ
dead_as (Ok u) (Ok v) number = number
dead_as (Ok u) (Err f) number = 0
dead_as (Err a) made number = 0

pub dead_by : (f g w : List ℕ) (q : ℕ) → dead_number f g w q
    ≡ dead_as (unless_refused (both_read f g)) (verdict (choices_fault (inputs g) [] w 0))
    (pair_number (found (first_dead (inputs g) q f g w)))
unfolding dead_number unless_refused verdict
dead_by f g w q =
    let both = both_read f g in
    let choices = choices_fault (inputs g) [] w 0 in
    go both choices (eqb both.code 0) (is_sound choices) (pair_number (found (first_dead (inputs g) q f g w)))
  where
    go : (a : Answer) (e : Fault) (s t : Bool) (number : ℕ)
        → cond s (cond t number 0) 0 ≡ dead_as (cond s (Ok (tt {0})) (Err a)) (cond t (Ok (tt {0})) (Err e)) number
    go a e true true number = refl
    go a e true false number = refl
    go a e false t number = refl
