-- What a table means: a text without fault whose record has none is a function of `.i` inputs whose on and off cubes are those
-- of its term lines with output 1 and 0, in their order; so a pattern is on exactly if it fits such a line with output 1, and
-- off with output 0. The idea: a character asks of its input what the two masks of its term's cube ask.
use Prim.Native.Nat.{ℕ, zero, suc, ◌+◌, ◌-◌, ◌%◌, ◌≤◌, ◌<◌}
use mathlib.Core.Path.{◌≡◌, refl, sym, ap, ap₂, ◌∙◌, subst}
use mathlib.Core.Bool.{Bool, true, false, cond, ◌&&◌, ◌||◌, false≢true}
use mathlib.Core.List.{List, [], ◌∷◌, ◌++◌}
use mathlib.Core.Logic.{⊎_elim}
use native.Mathlib.Nat.{le_trans}
use native.Mathlib.Omega.{arith}
use borrow.Author.Tests.{eqb-true, le-leb}
use lib.Dec.{leb, eqb}
use lib.ListN.{length, get_or, take, drop}
use lib.Seq.{take-add}
use Rattle.bits.specs.Bits.{bit, has, every}
use Rattle.bits.proofs.Tests.{both, both_left, both_right, same_test, below_or_not}
use Rattle.bits.proofs.Below.{every_at, every_if}
use Rattle.bits.proofs.Bit.{bit_le, bit_above, counted}
use Rattle.bits.proofs.Mask.{mask_lt, mask_has}
use Rattle.cubes.specs.Cubes.{meets, cube_holds, some_cube, some_holds}
use Rattle.answers.specs.Answers.{accepted}
use Rattle.rules.specs.Lists.{some_in, each_in}
use Rattle.rules.proofs.Lists.{getD_in, each_at}
use Rattle.records.specs.Records.{inputs, on_count, off_count, on_list, off_list, record_fault, reading, with_counts}
use Rattle.records.proofs.Frame.{record_sound, reading_accepted}
use Rattle.writer.specs.Writing.{record_bytes}
use Rattle.writer.proofs.Laws.{Sized}
use Rattle.writer.proofs.RoundTrip.{on_again, off_again}
use Rattle.words.specs.Words.{value}
use Rattle.terms.specs.Terms.{Says, nothing, keyword, term, end, malformed, unknown, dash, on_char, off_char, dot_i, dot_o, is_input, output, well_formed, inputs_with, cube_of}
use Rattle.terms.proofs.Cubes.{input_cases}
use Rattle.rows.specs.Rows.{of_keyword, of_term, is_of, stands, told, complete, line_code, table_fault, said_in, cubes_with}
use Rattle.tables.specs.Tables.{record_of}
use Rattle.rows.proofs.First.{line_at, Whole, whole_if, whole_front}

-- ---- a term against a pattern

-- character i against bit i: a dash fits both values, 1 and 0 their own
abbrev pub agrees : ℕ → Bool → Bool
agrees c value = eqb c dash || eqb c (cond value on_char off_char)

abbrev pub fits : List ℕ → ℕ → Bool
fits w x = every (length w) (λ i. agrees (get_or w i 0) (has x i))

-- as bits: the masks ask of an input what its character does
masks_ask : (value : Bool) (c : ℕ) → is_input c ≡ true → leb (cond (eqb c on_char) 1 0) (cond value 1 0) && leb (cond (eqb c off_char) 1 0 + cond value 1 0) 1 ≡ agrees c value
masks_ask true = input_cases _ refl refl refl
masks_ask false = input_cases _ refl refl refl

-- a test that passes from n on need be made below n alone
every_cut : (p q : ℕ → Bool) (n m : ℕ) → n ≤ m → ((i : ℕ) → i < n → p i ≡ q i) → ((i : ℕ) → n ≤ i → p i ≡ true) → every m p ≡ every n q
every_cut p q n m h below beyond =
    same_test _ _ (λ e. every_if q n (λ i l. sym (below i l) ∙ every_at p m e i (le_trans l h)))
    (λ e. every_if p m (λ i _. ⊎_elim (λ (l : i < n). below i l ∙ every_at q n e i l) (beyond i) (below_or_not i n)))

cube_fits : (w : List ℕ) (x : ℕ) → length w ≤ 8 → each_in is_input w ≡ true → cube_holds (inputs_with on_char w) (inputs_with off_char w) x ≡ fits w x
unfolding cube_holds
cube_fits w x few right = every_cut (meets P N x) (λ i. agrees (get_or w i 0) (has x i)) (length w) 8 few below beyond
  where
    P : ℕ
    P = inputs_with on_char w

    N : ℕ
    N = inputs_with off_char w

    as_bit : (c i : ℕ) → i < length w → bit i (inputs_with c w) ≡ cond (eqb (get_or w i 0) c) 1 0
    as_bit c i l = sym (counted (inputs_with c w) i) ∙ ap {B = ℕ} (λ (t : Bool). cond t 1 0) (mask_has (length w) (λ i. eqb (get_or w i 0) c) i l)

    below : (i : ℕ) → i < length w → meets P N x i ≡ agrees (get_or w i 0) (has x i)
    below i l =
        (λ j. leb (as_bit on_char i l j) (sym (counted x i) j) && leb (as_bit off_char i l j + sym (counted x i) j) 1)
        ∙ masks_ask (has x i) (get_or w i 0) (each_at is_input (get_or w i 0) w right (getD_in w i l))

    none : (c i : ℕ) → length w ≤ i → bit i (inputs_with c w) ≡ 0
    none c i l = bit_above i (length w) (mask_lt (length w) (λ i. eqb (get_or w i 0) c)) l

    beyond : (i : ℕ) → length w ≤ i → meets P N x i ≡ true
    beyond i l = both (le-leb (bit i P) (bit i x) (omega (arith, none on_char i l))) (le-leb (bit i N + bit i x) 1 (omega (arith, none off_char i l, bit_le i x)))

-- ---- the terms of a list of lines

-- each term is well-formed
abbrev pub term_right : ℕ → Says → Bool
term_right n s = of_term (λ w ws. well_formed n w ws) true s

-- the line is a term with output c that fits the pattern
abbrev pub term_fits : ℕ → ℕ → Says → Bool
term_fits c x s = of_term (λ w ws. eqb (output ws) c && fits w x) false s

term_holds : (n : ℕ) (w : List ℕ) (ws : List (List ℕ)) (x : ℕ) → n ≤ 8 → well_formed n w ws ≡ true → cube_holds (inputs_with on_char w) (inputs_with off_char w) x ≡ fits w x
unfolding well_formed
term_holds n w ws x few right =
    let long : Bool = eqb (length w) n in
    let front = both_left (long && each_in is_input w) _ right in
    cube_fits w x (omega (arith, few, eqb-true (length w) n (both_left long _ front))) (both_right long _ front)

-- some cube with output c holds the pattern exactly if some term with output c fits it
pub some_term_fits : (n c x : ℕ) → n ≤ 8 → (said : List Says) → each_in (term_right n) said ≡ true → some_holds (cubes_with c said) x ≡ some_in (term_fits c x) said
unfolding cubes_with some_cube some_in each_in of_term
some_term_fits n c x few [] right = refl
some_term_fits n c x few (nothing ∷ said) right = some_term_fits n c x few said right
some_term_fits n c x few (keyword name v ∷ said) right = some_term_fits n c x few said right
some_term_fits n c x few (term w ws ∷ said) right =
    let this = term_holds n w ws x few (both_left (well_formed n w ws) _ right) in
    let later = some_term_fits n c x few said (both_right (well_formed n w ws) _ right) in
    elim (eqb (output ws) c) as (λ t. some_holds (cond t (cube_of w) [] ++ cubes_with c said) x ≡ t && fits w x || some_in (term_fits c x) said) [ true ↦ ap₂ ◌||◌ this later | false ↦ later ]
some_term_fits n c x few (end ∷ said) right = some_term_fits n c x few said right
some_term_fits n c x few (malformed ∷ said) right = some_term_fits n c x few said right
some_term_fits n c x few (unknown ∷ said) right = some_term_fits n c x few said right

-- the cubes are whole: two bytes each
pub cubes_even : (c : ℕ) (said : List Says) → length (cubes_with c said) % 2 ≡ 0
unfolding cubes_with of_term
cubes_even c [] = refl
cubes_even c (nothing ∷ said) = cubes_even c said
cubes_even c (keyword name v ∷ said) = cubes_even c said
cubes_even c (term w ws ∷ said) =
    let later = cubes_even c said in
    elim (eqb (output ws) c) as (λ t. length (cond t (cube_of w) [] ++ cubes_with c said) % 2 ≡ 0) [ true ↦ omega (arith, later) | false ↦ later ]
cubes_even c (end ∷ said) = cubes_even c said
cubes_even c (malformed ∷ said) = cubes_even c said
cubes_even c (unknown ∷ said) = cubes_even c said

-- ---- before the end of a text without fault each term is well-formed

-- a number that stands is not told otherwise later
pub told_stays : (name : List ℕ) (said more : List Says) → stands name said ≡ true → told name (said ++ more) ≡ told name said
unfolding some_in told
told_stays name [] more h = absurd (false≢true h)
told_stays name (s ∷ said) more h = go (is_of name s) h (told_stays name said more)
  where
    go : (t : Bool) → t || stands name said ≡ true → (stands name said ≡ true → told name (said ++ more) ≡ told name said)
        → cond t (of_keyword (λ w v. value v) 0 s) (told name (said ++ more)) ≡ cond t (of_keyword (λ w v. value v) 0 s) (told name said)
    go true h later = refl
    go false h later = later h

-- a term without fault is well-formed for the number of inputs that is told by then
code_right : (n : ℕ) (said : List Says) → (stands dot_i said ≡ true → told dot_i said ≡ n) → (s : Says) → line_code said s ≡ 0 → term_right n s ≡ true
unfolding line_code of_term
code_right n said same nothing e = refl
code_right n said same (keyword name v) e = refl
code_right n said same (term w ws) e = go (complete said) (well_formed (told dot_i said) w ws) refl refl e
  where
    go : (t u : Bool) → complete said ≡ t → well_formed (told dot_i said) w ws ≡ u → ◌≡◌ {A = ℕ} (cond t (cond u 0 20) 21) 0 → well_formed n w ws ≡ true
    go true true all right z =
        ap (λ (m : ℕ). well_formed m w ws) (sym (same (both_left (stands dot_i said) _ (both_left (stands dot_i said && stands dot_o said) _ all)))) ∙ right
    go true false all right z = absurd (omega (arith, z))
    go false u all right z = absurd (omega (arith, z))
code_right n said same end e = refl
code_right n said same malformed e = refl
code_right n said same unknown e = refl

-- a test that each element passes up to a place
each_front : {A : Type 0} (t : A → Bool) (d : A) (k : ℕ) (l : List A) → ((j : ℕ) → j < k → t (get_or l j d) ≡ true) → each_in t (take k l) ≡ true
unfolding each_in
each_front t d zero l h = refl
each_front t d (suc k) [] h = refl
each_front t d (suc k) (a ∷ l) h = both (h 0 (omega arith)) (each_front t d k l (λ j g. h (suc j) (omega (arith, g))))

front_right : (said : List Says) (w : Whole said) → each_in (term_right (told dot_i (take w.index said))) (take w.index said) ≡ true
front_right said w = each_front _ nothing w.index said (λ j h. code_right _ (take j said) (by_then j h) (line_at said j) (w.before j h).sound_line)
  where
    by_then : (j : ℕ) → j < w.index → stands dot_i (take j said) ≡ true → told dot_i (take j said) ≡ told dot_i (take w.index said)
    by_then j h there =
        let whole : j + (w.index - j) ≡ w.index = omega (arith, h) in
        sym (told_stays dot_i (take j said) (take (w.index - j) (drop j said)) there) ∙ ap (told dot_i) (sym (take-add j (w.index - j) said) ∙ ap (λ (k : ℕ). take k said) whole)

pub terms_right : (text : List ℕ) → (table_fault text).code ≡ 0 → each_in (term_right (told dot_i (said_in text))) (said_in text) ≡ true
terms_right text e =
    let w = whole_if text e in
    subst (λ (l : List Says). each_in (term_right (told dot_i l)) l ≡ true) (sym (whole_front _ w)) (front_right _ w)

-- ---- the record of a table

sized : (text : List ℕ) → (record_fault (record_of text)).code ≡ 0 → Sized (told dot_i (said_in text)) (cubes_with on_char (said_in text)) (cubes_with off_char (said_in text))
unfolding record_of record_bytes
sized text good =
    let header = (record_sound (record_of text) good).framed.header in
    let on = cubes_even on_char (said_in text) in
    let off = cubes_even off_char (said_in text) in
    record {
      least = header.n_byte.least;
      most = header.n_byte.most;
      on_even = on;
      off_even = off;
      on_few = omega (arith, on, header.a_byte.most);
      off_few = omega (arith, off, header.b_byte.most);
    }

-- what the reader finds in it, and where the function is on and off: at any number x, so at each pattern of its inputs
pub record Meaning (text : List ℕ) : Type 0 where
  pub answer : reading (record_of text) ≡ with_counts (accepted 3 (length (record_of text))) (inputs (record_of text)) (on_count (record_of text)) (off_count (record_of text))
  pub inputs_are : inputs (record_of text) ≡ told dot_i (said_in text)
  pub on_cubes : on_list (record_of text) ≡ cubes_with on_char (said_in text)
  pub off_cubes : off_list (record_of text) ≡ cubes_with off_char (said_in text)
  pub on_at : (x : ℕ) → some_holds (on_list (record_of text)) x ≡ some_in (term_fits on_char x) (said_in text)
  pub off_at : (x : ℕ) → some_holds (off_list (record_of text)) x ≡ some_in (term_fits off_char x) (said_in text)

pub table_means : (text : List ℕ) → (table_fault text).code ≡ 0 → (record_fault (record_of text)).code ≡ 0 → Meaning text
unfolding record_of record_bytes
table_means text whole good =
    let size = sized text good in
    let on = on_again _ _ _ size in
    let off = off_again _ _ _ size in
    record {
      answer = reading_accepted (record_of text) good;
      inputs_are = refl;
      on_cubes = on;
      off_cubes = off;
      on_at = λ x. ap (λ (l : List ℕ). some_holds l x) on ∙ some_term_fits _ on_char x size.most (said_in text) (terms_right text whole);
      off_at = λ x. ap (λ (l : List ℕ). some_holds l x) off ∙ some_term_fits _ off_char x size.most (said_in text) (terms_right text whole);
    }
