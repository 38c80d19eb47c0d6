-- What the pieces of a case's line are as text: a list of ASCII codes.
use Rattle.std.specs.Prelude.{ℕ, ◌/◌, ◌%◌, List, [], ◌∷◌, ◌++◌, decimal, codes, drop, flat_map}
use Rattle.answers.specs.declared.Answer.{Answer}
use Rattle.words.specs.Words.{digit}

-- three numbers with single blanks
abbrev pub three_text : ℕ → ℕ → ℕ → List ℕ
three_text x y z = decimal x ++ codes " " ++ decimal y ++ codes " " ++ decimal z

-- an answer's five numbers
abbrev pub numbers_text : Answer → List ℕ
numbers_text a = three_text a.code a.kind a.«record» ++ codes " " ++ decimal a.place ++ codes " " ++ decimal a.pattern

-- a case's name and the answer
abbrev pub answer_text : List ℕ → Answer → List ℕ
answer_text name a = name ++ codes ": " ++ numbers_text a ++ codes "; "

-- a byte in capital hex
abbrev pub byte_text : ℕ → List ℕ
byte_text b = digit (b / 16) ∷ digit (b % 16) ∷ []

-- bytes in capital hex, with single blanks between them: a blank before each, but for the first
abbrev pub hex_text : List ℕ → List ℕ
hex_text bytes = drop 1 (flat_map (λ b. 32 ∷ byte_text b) bytes)
