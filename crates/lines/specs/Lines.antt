-- What the two programs print for what they read. Document 01, the end of "Small functions to try". Text is a list of ASCII codes.
use Rattle.std.specs.Prelude.{ℕ, ◌/◌, ◌%◌, cond, List, [], ◌∷◌, ◌++◌, map, eqb, ltb, length, take, drop}
use Rattle.words.specs.Words.{digit, decimal, line}
use Rattle.answers.specs.declared.Answer.{Answer}
use Rattle.records.specs.Records.{record_end}
use Rattle.checker.specs.Checking.{checking}
use Rattle.matcher.specs.Matching.{matching, claim_for}

-- ---- answers and bytes as text

-- a byte in capital hex
abbrev pub hex : ℕ → List ℕ
hex b = digit (b / 16) ∷ digit (b % 16) ∷ []

-- code, kind, record, place and pattern in decimal
unfoldable pub answer_line : Answer → List ℕ
answer_line a = line (map decimal (a.code ∷ a.kind ∷ a.«record» ∷ a.place ∷ a.pattern ∷ []))

-- an answer, and under it the bytes of a claim, if there is one
unfoldable pub text : Answer → List ℕ → List ℕ
text a claim = answer_line a ++ line (map hex claim)

-- ---- the input: records one after the other, each cut at the end that its counts tell, untested, or at the input's end

abbrev pub this_record : List ℕ → List ℕ
this_record input = take (record_end input) input

abbrev pub what_follows : List ℕ → List ℕ
what_follows input = drop (record_end input) input

-- ---- what is printed

-- the match program lends 4,096 bytes, and shows the claim if code is 0
unfoldable pub match_text : List ℕ → List ℕ → List ℕ
match_text f g = text (matching f g 4096) (cond (eqb (matching f g 4096).code 0) (claim_for f g) [])

unfoldable pub match_lines : List ℕ → List ℕ
match_lines input = match_text (this_record input) (this_record (what_follows input))

-- `too long`, and LF
abbrev pub too_long : List ℕ
too_long = 116 ∷ 111 ∷ 111 ∷ 32 ∷ 108 ∷ 111 ∷ 110 ∷ 103 ∷ 10 ∷ []

-- the check program takes the rest as the claim, and checks nothing if it is longer than 49,152 bytes
unfoldable pub check_text : List ℕ → List ℕ → List ℕ → List ℕ
check_text f g claim = cond (ltb 49152 (length claim)) too_long (answer_line (checking f g claim))

unfoldable pub check_lines : List ℕ → List ℕ
check_lines input = check_text (this_record input) (this_record (what_follows input)) (what_follows (what_follows input))
