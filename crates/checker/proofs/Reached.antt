-- Tests and readings in a row, as the code makes them: what the whole comes to is read off what its first part comes to.
use Rattle.std.proofs.Common.{◌≡◌, ℕ, Bool, true, false, cond, refl, Ok, Err}
use Rattle.std.specs.declared.result.Result.{Result}
use Rattle.std.specs.Result.{result_and}
use lib.Dec.{eqb}
use Rattle.answers.specs.declared.Fault.{Fault}
use Rattle.answers.specs.Answers.{fault_at, sound, is_sound, ◌then◌}
use Rattle.answers.specs.Verdicts.{verdict, reached}
use Rattle.answers.proofs.Verdicts.{verdict_then, byte_verdict, verdict_sound}
use Rattle.claims.specs.Reading.{read_to, ◌onward◌}

-- the place that was reached leads on, and a fault ends it
abbrev pub from_there : {A : Type 0} → Result ℕ Fault → (ℕ → Result A Fault) → Result A Fault
from_there (Ok at) next = next at
from_there (Err f) next = Err f

pub reached_to : (at : ℕ) → reached (read_to at) ≡ Ok at
unfolding reached
reached_to at = refl

pub reached_then : (f g : Fault) → reached (f then g) ≡ result_and (verdict f) (reached g)
unfolding reached verdict ◌then◌
reached_then f g = go (is_sound f) refl
  where
    go : (t : Bool) → is_sound f ≡ t
        → cond (is_sound (cond t g f)) (Ok (cond t g f).place) (Err (cond t g f))
        ≡ result_and (cond t (Ok (tt {0})) (Err f)) (cond (is_sound g) (Ok g.place) (Err g))
    go true e = refl
    go false e = simp e refl

pub reached_onward : (f : Fault) (next : ℕ → Fault) → reached (f onward next) ≡ from_there (reached f) (λ at. reached (next at))
unfolding reached ◌onward◌
reached_onward f next = go (is_sound f) refl
  where
    go : (t : Bool) → is_sound f ≡ t
        → cond (is_sound (cond t (next f.place) f)) (Ok (cond t (next f.place) f).place) (Err (cond t (next f.place) f))
        ≡ from_there (cond t (Ok f.place) (Err f)) (λ at. cond (is_sound (next at)) (Ok (next at).place) (Err (next at)))
    go true e = refl
    go false e = simp e refl

pub verdict_onward : (f : Fault) (next : ℕ → Fault) → verdict (f onward next) ≡ from_there (reached f) (λ at. verdict (next at))
unfolding verdict reached ◌onward◌
verdict_onward f next = go (is_sound f) refl
  where
    go : (t : Bool) → is_sound f ≡ t
        → cond (is_sound (cond t (next f.place) f)) (Ok (tt {0})) (Err (cond t (next f.place) f))
        ≡ from_there (cond t (Ok f.place) (Err f)) (λ at. cond (is_sound (next at)) (Ok (tt {0})) (Err (next at)))
    go true e = refl
    go false e = simp e refl

-- tests between two faults, and what a fault comes to by its code
pub verdict_cond : (t : Bool) (f g : Fault) → verdict (cond t f g) ≡ cond t (verdict f) (verdict g)
verdict_cond true f g = refl
verdict_cond false f g = refl

pub verdict_fine : verdict sound ≡ Ok (tt {0})
verdict_fine = verdict_sound sound refl

pub verdict_coded : (code place pattern : ℕ) → eqb code 0 ≡ false → verdict (fault_at code place pattern) ≡ Err (fault_at code place pattern)
unfolding verdict
verdict_coded code place pattern e = simp e refl

pub reached_cond : (t : Bool) (f g : Fault) → reached (cond t f g) ≡ cond t (reached f) (reached g)
reached_cond true f g = refl
reached_cond false f g = refl

pub reached_coded : (code place pattern : ℕ) → eqb code 0 ≡ false → reached (fault_at code place pattern) ≡ Err (fault_at code place pattern)
unfolding reached
reached_coded code place pattern e = simp e refl

-- a chain of tests
pub ruleset verdicts = (verdict_then, byte_verdict, verdict_cond, verdict_fine, verdict_coded)

-- a chain of tests and readings
pub ruleset readings = (verdicts, reached_then, reached_cond, reached_coded, reached_to, reached_onward, verdict_onward)
