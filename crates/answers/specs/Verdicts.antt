-- What the code's tests come to: no fault, or the first one; a refusal or none. And the numbers of its codes, by document 01.
use Rattle.std.specs.Prelude.{ℕ, List, cond, ◌&&◌, leb, eqb, length, get_or, Ok, Err}
use Rattle.std.specs.declared.result.Result.{Result}
use Rattle.std.specs.declared.option.Option.{Option}
use Rattle.std.specs.declared.option.Option.TheVariants.{None, Some}
use Rattle.answers.specs.declared.Answer.{Answer}
use Rattle.answers.specs.declared.Code.{Code}
use Rattle.answers.specs.declared.Code.TheVariants.{EndsEarly, WrongMark, BadN, BadCount, BeyondN, InBothMasks, OnAndOff, BytesFollow, NDiffers, ClaimN, BadQ, BadChoice, UsedTwice, NotAgreeing, BadNode, SplitAtN, NotDead, BufferShort, OddList, BadLine, Keyword, TermCount}
use Rattle.answers.specs.declared.Fault.{Fault}
use Rattle.answers.specs.Answers.{fault, sound, is_sound}

-- the number of a code
abbrev pub number : Code → ℕ
number EndsEarly = 1
number WrongMark = 2
number BadN = 3
number BadCount = 4
number BeyondN = 5
number InBothMasks = 6
number OnAndOff = 7
number BytesFollow = 8
number NDiffers = 9
number ClaimN = 10
number BadQ = 11
number BadChoice = 12
number UsedTwice = 13
number NotAgreeing = 14
number BadNode = 15
number SplitAtN = 16
number NotDead = 17
number BufferShort = 18
number OddList = 19
number BadLine = 20
number Keyword = 21
number TermCount = 22

-- and 0 for none
abbrev pub code_number : Option Code → ℕ
code_number None = 0
code_number (Some code) = number code

-- a fault as what a test comes to, and back: no fault where its code is 0
unfoldable pub verdict : Fault → Result (Unit {0}) Fault
verdict f = cond (is_sound f) (Ok (tt {0})) (Err f)

unfoldable pub fault_of : Result (Unit {0}) Fault → Fault
fault_of (Ok u) = sound
fault_of (Err f) = f

-- a place that was reached, where its code is 0, or the fault on the way
unfoldable pub reached : Fault → Result ℕ Fault
reached f = cond (is_sound f) (Ok f.place) (Err f)

-- an answer as what tests come to: a refusal, or none where its code is 0
unfoldable pub unless_refused : Answer → Result (Unit {0}) Answer
unless_refused a = cond (eqb a.code 0) (Ok (tt {0})) (Err a)

-- the test of a header byte, whatever its code
unfoldable pub byte_test : List ℕ → ℕ → ℕ → ℕ → ℕ → Result (Unit {0}) Fault
byte_test s k low high code =
    cond (leb (length s) k) (Err (fault 1 (length s)))
    (cond (leb low (get_or s k 0) && leb (get_or s k 0) high) (Ok (tt {0})) (Err (fault code k)))
