-- The lines of an espresso table one after another, in the words of document 02, W-201: whether a line is at fault depends on what it
-- says and on what the lines before it said.
use Rattle.std.specs.Prelude.{ℕ, ◌+◌, Bool, true, false, cond, not, ◌&&◌, List, [], ◌∷◌, ◌++◌, map, leb, eqb, length}
use Rattle.rules.specs.Lists.{some_in, count_in, same}
use Rattle.words.specs.Words.{lines, value}
use Rattle.terms.specs.Terms.{Says, nothing, keyword, term, end, malformed, unknown, says, well_formed, output, cube_of, dot_i, dot_o, dot_type, dot_p}
use Rattle.answers.specs.declared.Fault.{Fault}
use Rattle.answers.specs.Answers.{fault, sound}

-- ---- what is known so far, from what the lines up to here said

module _ {A : Type 0} where
  -- something of a keyword's name and value, or of a term's words; else something that is fixed
  unfoldable pub of_keyword : (List ℕ → List ℕ → A) → A → Says → A
  of_keyword f a nothing = a
  of_keyword f a (keyword name v) = f name v
  of_keyword f a (term w ws) = a
  of_keyword f a end = a
  of_keyword f a malformed = a
  of_keyword f a unknown = a

  unfoldable pub of_term : (List ℕ → List (List ℕ) → A) → A → Says → A
  of_term f a nothing = a
  of_term f a (keyword name v) = a
  of_term f a (term w ws) = f w ws
  of_term f a end = a
  of_term f a malformed = a
  of_term f a unknown = a

unfoldable pub is_end : Says → Bool
is_end nothing = false
is_end (keyword name v) = false
is_end (term w ws) = false
is_end end = true
is_end malformed = false
is_end unknown = false

-- a keyword stands in some line
abbrev pub is_of : List ℕ → Says → Bool
is_of name s = of_keyword (λ w v. same name w) false s

abbrev pub stands : List ℕ → List Says → Bool
stands name said = some_in (is_of name) said

-- its number, or 0
unfoldable pub told : List ℕ → List Says → ℕ
told name [] = 0
told name (s ∷ said) = cond (is_of name s) (of_keyword (λ w v. value v) 0 s) (told name said)

-- `.i`, `.o` and `.type fr` stand
abbrev pub complete : List Says → Bool
complete said = stands dot_i said && stands dot_o said && stands dot_type said

-- the number of term lines, those that add nothing included; and whether it differs from that of `.p`, which may be left out
abbrev pub terms : List Says → ℕ
terms said = count_in (λ s. of_term (λ w ws. true) false s) said

abbrev pub miscounted : List Says → Bool
miscounted said = stands dot_p said && not (eqb (terms said) (told dot_p said))

-- ---- the first faulty line

-- the code of a line after the lines `said`, 0 where it has no fault: 20 malformed line or repeated keyword; 21 unknown keyword,
-- or one missing at the first term or at `.e`; 3 an `.i` outside 1 to 8; 22 at `.e`, term count differs from `.p`. In this
-- order, but 21 before 20 at the first term
unfoldable pub line_code : List Says → Says → ℕ
line_code said nothing = 0
line_code said (keyword name v) = cond (stands name said) 20 (cond (same name dot_i && not (leb 1 (value v) && leb (value v) 8)) 3 0)
line_code said (term w ws) = cond (complete said) (cond (well_formed (told dot_i said) w ws) 0 20) 21
line_code said end = cond (complete said) (cond (miscounted said) 22 0) 21
line_code said malformed = 20
line_code said unknown = 21

-- its number counts from 1; where no `.e` is found, 21 at the line after the last
unfoldable pub first_faulty : List Says → List Says → Fault
first_faulty said [] = fault 21 (length said + 1)
first_faulty said (s ∷ rest) =
    cond (eqb (line_code said s) 0)
    (cond (is_end s) sound (first_faulty (said ++ (s ∷ [])) rest))
    (fault (line_code said s) (length said + 1))

unfoldable pub table_fault : List ℕ → Fault
table_fault text = first_faulty [] (map says (lines text))

-- ---- the cubes

-- what the lines before `.e` say: what follows it is ignored
unfoldable pub up_to_end : List Says → List Says
up_to_end [] = []
up_to_end (s ∷ rest) = cond (is_end s) [] (s ∷ up_to_end rest)

abbrev pub said_in : List ℕ → List Says
said_in text = up_to_end (map says (lines text))

-- the cube of a term whose output is c, none of any other line; and those of the lines in their order
abbrev pub cube_with : ℕ → Says → List ℕ
cube_with c s = of_term (λ w ws. cond (eqb (output ws) c) (cube_of w) []) [] s

unfoldable pub cubes_with : ℕ → List Says → List ℕ
cubes_with c [] = []
cubes_with c (s ∷ said) = cube_with c s ++ cubes_with c said
