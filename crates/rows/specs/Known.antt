-- What the code keeps while it goes through the lines, and how it judges one by that.
use Rattle.std.specs.Prelude.{ℕ, ◌+◌, ◌*◌, ◌%◌, ◌≤◌, ◌≡◌, Bool, true, false, cond, not, ◌&&◌, List, [], ◌∷◌, leb, ltb, eqb, length, take, is_some, Ok, Err, IfOk}
use Rattle.std.proofs.lemmas.List.Edits.{sets}
use Rattle.std.specs.declared.option.Option.{Option}
use Rattle.std.specs.declared.option.Option.TheVariants.{None, Some}
use Rattle.std.specs.declared.result.Result.{Result}
use Rattle.answers.specs.declared.Fault.{Fault}
use Rattle.answers.specs.Verdicts.{verdict}
use Rattle.terms.specs.declared.Term.{Term as TermRead}
use Rattle.terms.specs.declared.Line.{Line}
use Rattle.terms.specs.declared.Line.TheVariants.{Nothing, Inputs, Output, Fr, Terms, Term, End, Malformed, Unknown}
use Rattle.terms.specs.Terms.{dot_i, on_char, off_char}
use Rattle.rows.specs.declared.Known.{Known}
use Rattle.rows.specs.declared.Scan.{Scan}
use Rattle.rows.specs.Rows.{told, table_fault, said_in, cubes_with}

abbrev pub known : Option ℕ → Bool → Bool → Option ℕ → ℕ → ℕ → ℕ → Known
known n one fr told terms on off = record { n = n; one = one; fr = fr; told = told; terms = terms; on = on; off = off }

abbrev pub nothing_known : Known
nothing_known = known None false false None 0 0 0

-- the three keywords that must stand before the first term
abbrev pub all_known : Known → Bool
all_known k = is_some k.n && k.one && k.fr

abbrev pub if_repeated : Bool → ℕ
if_repeated stands = cond stands 20 0

abbrev pub inputs_code : Option ℕ → ℕ → ℕ
inputs_code n v = cond (is_some n) 20 (cond (leb 1 v && leb v 8) 0 3)

-- the number that is told is this one
abbrev pub tells : Option ℕ → ℕ → Bool
tells None n = false
tells (Some m) n = eqb n m

abbrev pub fits_in : Option ℕ → Option TermRead → Bool
fits_in n None = false
fits_in n (Some t) = tells n t.n

abbrev pub term_code : Known → Option TermRead → ℕ
term_code k t = cond (all_known k) (cond (fits_in k.n t) 0 20) 21

abbrev pub end_code : Known → ℕ
end_code k = cond (all_known k) (cond (is_some k.told && not (tells k.told k.terms)) 22 0) 21

abbrev pub code_by : Known → Line → ℕ
code_by k Nothing = 0
code_by k (Inputs v) = inputs_code k.n v
code_by k Output = if_repeated k.one
code_by k Fr = if_repeated k.fr
code_by k (Terms v) = if_repeated (is_some k.told)
code_by k (Term t) = term_code k t
code_by k End = end_code k
code_by k Malformed = 20
code_by k Unknown = 21

-- one more, if the character is that
abbrev pub more_if : ℕ → ℕ → ℕ → ℕ
more_if out c count = count + cond (eqb out c) 1 0

abbrev pub learnt : Known → Line → Known
learnt k Nothing = k
learnt k (Inputs v) = known (Some (v % 256)) k.one k.fr k.told k.terms k.on k.off
learnt k Output = known k.n true k.fr k.told k.terms k.on k.off
learnt k Fr = known k.n k.one true k.told k.terms k.on k.off
learnt k (Terms v) = known k.n k.one k.fr (Some v) k.terms k.on k.off
learnt k (Term None) = k
learnt k (Term (Some t)) = known k.n k.one k.fr k.told (k.terms + 1) (more_if t.out on_char k.on) (more_if t.out off_char k.off)
learnt k End = k
learnt k Malformed = k
learnt k Unknown = k

-- a list of up to 64 cubes with one more: a cube whose output is c goes behind the others
abbrev pub kept : ℕ → TermRead → ℕ → List ℕ → List ℕ
kept c t count l = cond (eqb t.out c && ltb count 64) (sets l (2 * count) (t.cube.pos ∷ t.cube.neg ∷ [])) l

-- and so a list after any line
abbrev pub kept_by : ℕ → Line → ℕ → List ℕ → List ℕ
kept_by c (Term (Some t)) count l = kept c t count l
kept_by c line count l = l

-- n, at the end
abbrev pub n_at_end : Known → Line → Option ℕ
n_at_end k End = k.n
n_at_end k line = None

-- what a walk over the lines leaves: the table's fault; and where there is none, n and the cubes of the two lists, counted, and
-- stored as far as there is room for them
pub record Scanned (text on off : List ℕ) (r : Scan) : Type 0 where
  pub least : 1 ≤ r.n
  pub most : r.n ≤ 8
  pub inputs_are : r.n ≡ told dot_i (said_in text)
  pub on_count : length (cubes_with on_char (said_in text)) ≡ 2 * r.on
  pub off_count : length (cubes_with off_char (said_in text)) ≡ 2 * r.off
  pub on_stored : r.on ≤ 64 → take (2 * r.on) on ≡ cubes_with on_char (said_in text)
  pub off_stored : r.off ≤ 64 → take (2 * r.off) off ≡ cubes_with off_char (said_in text)

abbrev pub scanned : Result Scan Fault → Result (Unit {0}) Fault
scanned (Ok r) = Ok (tt {0})
scanned (Err f) = Err f

pub record Gathered (text on off : List ℕ) (r : Result Scan Fault) : Type 0 where
  pub found : scanned r ≡ verdict (table_fault text)
  pub on_room : length on ≡ 128
  pub off_room : length off ≡ 128
  pub kept_both : IfOk r (Scanned text on off)
