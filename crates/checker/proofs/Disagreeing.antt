-- What was found of two functions' disagreement says which fault the wiring has: none, or 14 with the pattern.
use Prim.Native.Nat.{ℕ, ◌^◌}
use mathlib.Core.Path.{◌≡◌, refl}
use mathlib.Core.Bool.{Bool, cond}
use mathlib.Core.List.{List}
use Rattle.std.proofs.Common.{Ok, Err, Option, None, Some}
use Rattle.std.specs.declared.result.Result.{Result}
use Rattle.std.specs.Prelude.{not}
use Rattle.bits.specs.Bits.{any, smallest, or_zero}
use Rattle.bits.proofs.Smallest.{found_any, none_any}
use Rattle.answers.specs.declared.Fault.{Fault}
use Rattle.answers.specs.Answers.{fault_at, sound}
use Rattle.answers.specs.Verdicts.{verdict}
use Rattle.records.specs.Records.{inputs}
use Rattle.wirings.specs.Wirings.{read_at, disagree_at, agrees, disagreement}
use Rattle.checker.specs.Checking.{agreement_fault}

-- as the code tells it
abbrev pub agreed : Option ℕ → Result (Unit {0}) Fault
agreed None = Ok (tt {0})
agreed (Some x) = Err (fault_at 14 0 x)

pub agreement_by : (q : ℕ) (f g w : List ℕ) → verdict (agreement_fault q f g w) ≡ agreed (disagreement q f g w)
unfolding agreement_fault agrees disagreement or_zero verdict
agreement_by q f g w = go (smallest (2 ^ inputs g) differ) refl
  where
    differ : ℕ → Bool
    differ y = disagree_at q f g (read_at w y) y

    go : (o : Option ℕ) → smallest (2 ^ inputs g) differ ≡ o → verdict (cond (not (any (2 ^ inputs g) differ)) sound (fault_at 14 0 (or_zero o))) ≡ agreed o
    go None e = simp (none_any differ (2 ^ inputs g) e) refl
    go (Some x) e = simp (found_any differ (2 ^ inputs g) x e) refl
