-- What the code keeps of a line: a number up to the largest that is told apart, and the term, if it is well formed for some n from 1
-- to 8.
use Rattle.std.specs.Prelude.{ℕ, min, Bool, cond, ◌&&◌, List, [], ◌∷◌, leb, length}
use Rattle.std.specs.declared.option.Option.{Option}
use Rattle.std.specs.declared.option.Option.TheVariants.{None, Some}
use Rattle.rules.specs.Lists.{each_in, same}
use Rattle.words.specs.Words.{value}
use Rattle.words.specs.Counted.{most, counted}
use Rattle.terms.specs.declared.Term.{Term as TermRead}
use Rattle.terms.specs.declared.Line.{Line}
use Rattle.terms.specs.declared.Line.TheVariants.{Nothing, Inputs, Output, Fr, Terms, Term, End, Malformed, Unknown}
use Rattle.terms.specs.Terms.{Says, nothing, keyword, term, end, malformed, unknown, dot_i, dot_o, dot_type, on_char, off_char, is_input, inputs_with, output, well_formed}

-- the term of a first word with an output, n the word's length
abbrev pub term_of : List ℕ → ℕ → TermRead
term_of w out = record { n = length w; cube = record { pos = inputs_with on_char w; neg = inputs_with off_char w }; out = out }

-- if each character is an input's; and if the words after it are an output alone
unfoldable pub masked : List ℕ → ℕ → Option TermRead
masked w out = cond (each_in is_input w) (Some (term_of w out)) None

unfoldable pub term_seen : List ℕ → List (List ℕ) → Option TermRead
term_seen w ws = cond (leb (length w) 8 && well_formed (length w) w ws) (Some (term_of w (output ws))) None

unfoldable pub seen : Says → Line
seen nothing = Nothing
seen (keyword name v) = cond (same name dot_i) (Inputs (min (value v) most)) (cond (same name dot_o) Output (cond (same name dot_type) Fr (Terms (min (value v) most))))
seen (term w ws) = Term (term_seen w ws)
seen end = End
seen malformed = Malformed
seen unknown = Unknown

-- the words after the first, as far as they matter: the one that is alone there, or none
abbrev pub after : Bool → List ℕ → List (List ℕ)
after alone v = cond alone (v ∷ []) []

-- the number that is alone there
abbrev pub numbered : Bool → List ℕ → Option ℕ
numbered alone v = cond alone (counted v) None
