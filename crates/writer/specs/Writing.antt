-- The writer of function records, in the order of document 01: 3; 19 for the on list, then the off list; 4 likewise; 5 and 6
-- through the on list, then the off list; 7; 18. Record 1 is the on list, 2 the off list; places count within the list.
use Rattle.std.specs.Prelude.{ℕ, ◌/◌, ◌%◌, cond, List, ◌∷◌, ◌++◌, ltb, eqb, length}
use Rattle.answers.specs.declared.Answer.{Answer}
use Rattle.answers.specs.Answers.{fine, refused, fits, by, ◌or_else◌}
use Rattle.records.specs.Records.{first_fault, cube_code, clash_code, clash_pattern, no_pattern}

-- the record's bytes, from n and the two lists of cube bytes
unfoldable pub record_bytes : ℕ → List ℕ → List ℕ → List ℕ
record_bytes n on off = 0x46 ∷ 0x4E ∷ n ∷ length on / 2 ∷ length off / 2 ∷ on ++ off

-- no list has more than 64 cubes
unfoldable pub few : List ℕ → List ℕ → Answer
few on off = cond (ltb 128 (length on)) (refused 4 1 128) (cond (ltb 128 (length off)) (refused 4 2 128) fine)

-- n, then whether each list is whole cubes, then their number
unfoldable pub sizes : ℕ → List ℕ → List ℕ → Answer
sizes n on off =
    cond (ltb n 1) (refused 3 0 0)
    (cond (ltb 8 n) (refused 3 0 0)
    (cond (eqb (length on % 2) 1) (refused 19 1 (length on))
    (cond (eqb (length off % 2) 1) (refused 19 2 (length off))
    (few on off))))

-- each cube of either list, then the on cubes against the off cubes
unfoldable pub cubes : ℕ → List ℕ → List ℕ → Answer
cubes n on off =
    by 1 (first_fault (cube_code n) no_pattern on 0)
    (by 2 (first_fault (cube_code n) no_pattern off 0)
    (by 1 (first_fault (clash_code n off) (clash_pattern n off) on 0)
    fine))

-- and last, room for the whole record
unfoldable pub writing : ℕ → List ℕ → List ℕ → ℕ → Answer
writing n on off room = sizes n on off or_else cubes n on off or_else fits 3 room (length (record_bytes n on off))
