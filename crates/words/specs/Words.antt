-- Text as a list of bytes, ASCII codes: its lines, the words of a line, and numbers in decimal, as they are read and as they
-- are written.
use Rattle.std.specs.Prelude.{ℕ, zero, suc, ◌+◌, ◌*◌, ◌-◌, ◌/◌, ◌%◌, Bool, cond, ◌&&◌, ◌||◌, List, [], ◌∷◌, ◌++◌, leb, ltb, eqb, length, take}
use Rattle.rules.specs.Lists.{filter, each_in, passed_over}

-- ---- reading

-- a character before the first of some pieces
unfoldable pub onto : ℕ → List (List ℕ) → List (List ℕ)
onto c [] = (c ∷ []) ∷ []
onto c (w ∷ ws) = (c ∷ w) ∷ ws

-- the pieces of a text, each ended by a character that passes the test or by the text's end. So one that stands last ends the
-- last piece and opens none, and the empty text has no piece
unfoldable pub pieces : (ℕ → Bool) → List ℕ → List (List ℕ)
pieces ends [] = []
pieces ends (c ∷ s) = cond (ends c) ([] ∷ pieces ends s) (onto c (pieces ends s))

-- what stands before the first character that passes the test, or all
abbrev pub before : (ℕ → Bool) → List ℕ → List ℕ
before ends s = take (passed_over ends s) s

-- LF alone ends a line
abbrev pub is_lf : ℕ → Bool
is_lf c = eqb c 10

abbrev pub lines : List ℕ → List (List ℕ)
lines text = pieces is_lf text

-- a blank is a space, a tab or a carriage return
abbrev pub is_blank : ℕ → Bool
is_blank c = eqb c 32 || eqb c 9 || eqb c 13

-- the words of a line: the pieces between blanks that have a character
abbrev pub words : List ℕ → List (List ℕ)
words line = filter (λ w. ltb 0 (length w)) (pieces is_blank line)

-- a comment goes from # to the line's end
abbrev pub is_hash : ℕ → Bool
is_hash c = eqb c 35

abbrev pub bare : List ℕ → List ℕ
bare l = before is_hash l

-- where that part of a line ends in a text of many lines, and where a word of it does
abbrev pub ends_bare : ℕ → Bool
ends_bare c = is_lf c || is_hash c

abbrev pub ends_word : ℕ → Bool
ends_word c = is_blank c || ends_bare c

-- a number: decimal digits, as many as you like, at least one
abbrev pub is_digit : ℕ → Bool
is_digit c = leb 48 c && leb c 57

abbrev pub is_number : List ℕ → Bool
is_number w = ltb 0 (length w) && each_in is_digit w

-- its value, from the left
unfoldable pub read_on : ℕ → List ℕ → ℕ
read_on so_far [] = so_far
read_on so_far (d ∷ ds) = read_on (10 * so_far + (d - 48)) ds

abbrev pub value : List ℕ → ℕ
value w = read_on 0 w

-- ---- writing

-- 0 to 9, then A to F
abbrev pub digit : ℕ → ℕ
digit d = cond (ltb d 10) (48 + d) (55 + d)

-- a number in decimal, divided by ten at most k times; the number itself is always enough for k
unfoldable pub decimal_within : ℕ → ℕ → List ℕ
decimal_within zero x = digit x ∷ []
decimal_within (suc k) x = cond (ltb x 10) (digit x ∷ []) (decimal_within k (x / 10) ++ (digit (x % 10) ∷ []))

abbrev pub decimal : ℕ → List ℕ
decimal x = decimal_within x x

-- words with single blanks between them, and LF after the last; no words, no line
unfoldable pub line : List (List ℕ) → List ℕ
line [] = []
line (w ∷ []) = w ++ (10 ∷ [])
line (w ∷ v ∷ ws) = w ++ (32 ∷ line (v ∷ ws))
