-- One line of an espresso table with one output, in the words of document 02, W-201: what it says, and how the line of a term is
-- written.
use Rattle.std.specs.Prelude.{ℕ, Bool, cond, ◌&&◌, ◌||◌, List, [], ◌∷◌, ◌++◌, map, eqb, length, get_or}
use Rattle.bits.specs.Bits.{has, mask}
use Rattle.rules.specs.Lists.{upto, each_in, same}
use Rattle.words.specs.Words.{bare, words, is_number, line}

-- ---- the words of a table: keywords begin with a dot, and capitals matter

abbrev pub dot : ℕ
dot = 46

-- .i
abbrev pub dot_i : List ℕ
dot_i = dot ∷ 105 ∷ []

-- .o, and its value 1
abbrev pub dot_o : List ℕ
dot_o = dot ∷ 111 ∷ []

abbrev pub one : List ℕ
one = 49 ∷ []

-- .type, and its value fr
abbrev pub dot_type : List ℕ
dot_type = dot ∷ 116 ∷ 121 ∷ 112 ∷ 101 ∷ []

abbrev pub fr : List ℕ
fr = 102 ∷ 114 ∷ []

-- .p
abbrev pub dot_p : List ℕ
dot_p = dot ∷ 112 ∷ []

-- .e
abbrev pub dot_e : List ℕ
dot_e = dot ∷ 101 ∷ []

-- 0, 1, - and ~ of a term
abbrev pub off_char : ℕ
off_char = 48

abbrev pub on_char : ℕ
on_char = 49

abbrev pub dash : ℕ
dash = 45

abbrev pub tilde : ℕ
tilde = 126

-- ---- what one line says

pub data Says : Type 0 where
  nothing : Says
  keyword : List ℕ → List ℕ → Says
  term : List ℕ → List (List ℕ) → Says
  end : Says
  malformed : Says
  unknown : Says

-- `.i` and `.p` take a number, `.o` exactly 1, `.type` exactly fr
abbrev pub is_keyword : List ℕ → Bool
is_keyword name = same name dot_i || same name dot_o || same name dot_type || same name dot_p

abbrev pub takes : List ℕ → List ℕ → Bool
takes name v = cond (same name dot_o) (same v one) (cond (same name dot_type) (same v fr) (is_number v))

-- of the words after the first: whether there is just one, and that one
abbrev pub alone : List (List ℕ) → Bool
alone ws = eqb (length ws) 1

abbrev pub second : List (List ℕ) → List ℕ
second ws = get_or ws 0 []

-- a line whose first word begins with a dot. A keyword with another value, with none or with one too many is malformed; what
-- follows `.e` is ignored
unfoldable pub keyword_line : List ℕ → List (List ℕ) → Says
keyword_line name ws =
    cond (same name dot_e) end
    (cond (is_keyword name) (cond (alone ws && takes name (second ws)) (keyword name (second ws)) malformed) unknown)

-- every other line that has a word is a term line, by its first word and those after it
unfoldable pub says_by : List (List ℕ) → Says
says_by [] = nothing
says_by (w ∷ ws) = cond (eqb (get_or w 0 0) dot) (keyword_line w ws) (term w ws)

abbrev pub says : List ℕ → Says
says l = says_by (words (bare l))

-- a term is n characters from 0, 1 and -, and one output character
abbrev pub is_input : ℕ → Bool
is_input c = eqb c off_char || eqb c on_char || eqb c dash

abbrev pub is_output : ℕ → Bool
is_output c = is_input c || eqb c tilde

abbrev pub output : List (List ℕ) → ℕ
output ws = get_or (second ws) 0 0

unfoldable pub well_formed : ℕ → List ℕ → List (List ℕ) → Bool
well_formed n w ws = eqb (length w) n && each_in is_input w && (alone ws && eqb (length (second ws)) 1 && is_output (output ws))

-- its cube: the masks of the inputs whose character is 1 and of those whose character is 0, input 0 first
abbrev pub inputs_with : ℕ → List ℕ → ℕ
inputs_with c w = mask (length w) (λ i. eqb (get_or w i 0) c)

abbrev pub cube_of : List ℕ → List ℕ
cube_of w = inputs_with on_char w ∷ inputs_with off_char w ∷ []

-- ---- writing

-- a cube as n characters, input 0 first
abbrev pub characters : ℕ → ℕ → ℕ → List ℕ
characters n P N = map (λ i. cond (has P i) on_char (cond (has N i) off_char dash)) (upto n)

-- a term line for each cube, with its output
unfoldable pub term_lines : ℕ → ℕ → List ℕ → List ℕ
term_lines n out [] = []
term_lines n out (P ∷ []) = []
term_lines n out (P ∷ N ∷ cubes) = line (characters n P N ∷ (out ∷ []) ∷ []) ++ term_lines n out cubes
