-- What the calls for tests return and leave in the lent slices.
use Rattle.std.specs.Prelude.{ℕ, ◌+◌, ◌*◌, ◌%◌, ◌^◌, cond, List, [], ◌∷◌, eqb}
use Rattle.answers.specs.declared.Answer.{Answer}
use Rattle.answers.specs.Answers.{packed, is_sound}
use Rattle.records.specs.declared.Reading.{Reading}
use Rattle.records.specs.Records.{inputs, both_read}
use Rattle.wirings.specs.Pairs.{first_dead}
use Rattle.std.specs.declared.option.Option.{Option}
use Rattle.std.specs.declared.option.Option.TheVariants.{None, Some}
use Rattle.partial.specs.declared.Pair.{Pair as PairFound}
use Rattle.checker.specs.Checking.{choices_fault}
use Rattle.partial.specs.Partial.{found}

-- the answer as one number, its place taken modulo 2^32
unfoldable pub packed_mod : Answer → ℕ
packed_mod a = packed (record { code = a.code; kind = a.kind; «record» = a.«record»; place = a.place % 2 ^ 32; pattern = a.pattern })

-- the three numbers beside the reader's answer
abbrev pub counts_of : Reading → List ℕ
counts_of r = r.n ∷ r.a ∷ r.b ∷ []

-- ---- the first dead pair

-- a pair as a number, 1 for none
unfoldable pub pair_number : Option PairFound → ℕ
pair_number None = 1
pair_number (Some p) = 2 + p.s + 256 * p.u + 65536 * p.v

-- 0 where the records or the choices are not accepted
unfoldable pub dead_number : List ℕ → List ℕ → List ℕ → ℕ → ℕ
dead_number f g w q =
    cond (eqb (both_read f g).code 0)
    (cond (is_sound (choices_fault (inputs g) [] w 0)) (pair_number (found (first_dead (inputs g) q f g w))) 0)
    0
