-- What the code asks of two lists before it makes a record of them, and what it then answers.
use Rattle.std.specs.Prelude.{ℕ, ◌%◌, ◌≤◌, ◌≡◌, List, length}
use Rattle.answers.specs.declared.Answer.{Answer}
use Rattle.answers.specs.Answers.{by, fits}
use Rattle.records.specs.Records.{record_fault, first_fault, cube_code, no_pattern}

-- two lists of cubes that a record can be made of, none with a fault of its own
pub record Ready (n : ℕ) (on off : List ℕ) : Type 0 where
  pub least : 1 ≤ n
  pub most : n ≤ 8
  pub on_even : length on % 2 ≡ 0
  pub off_even : length off % 2 ≡ 0
  pub on_few : length on ≤ 128
  pub off_few : length off ≤ 128
  pub on_cubes : (first_fault (cube_code n) no_pattern on 0).code ≡ 0
  pub off_cubes : (first_fault (cube_code n) no_pattern off 0).code ≡ 0

-- 4 and 7 at their places in the record, then 18
abbrev pub record_reading : List ℕ → ℕ → Answer
record_reading s room = by 1 (record_fault s) (fits 3 room (length s))
