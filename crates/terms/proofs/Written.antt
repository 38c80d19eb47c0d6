-- A line that is written says what was written: words with single blanks between them, without a blank, a # or LF in any, are
-- read back one by one. So are the lines of terms, and their cubes.
use Prim.Native.Nat.{ℕ, ◌≤◌, ◌<◌}
use mathlib.Core.Path.{◌≡◌, refl, sym, ap, ap₂, ◌∙◌}
use mathlib.Core.Bool.{Bool, true, false, cond, not, ◌&&◌}
use mathlib.Core.List.{List, [], ◌∷◌, ◌++◌, map, append_assoc}
use mathlib.Core.Logic.{⊎_elim}
use native.Mathlib.Omega.{arith}
use borrow.Author.Tests.{leb-true, ltb-true, lt-ltb, ne_eqb, not-true}
use lib.Dec.{leb, ltb, eqb}
use lib.ListN.{length, get_or}
use lib.Seq.{append_snoc}
use Rattle.bits.proofs.Tests.{both, both_left, both_right}
use Rattle.rules.specs.Lists.{filter, each_in, passed_over}
use Rattle.rules.proofs.Lists.{each_at, each_if, in_either, getD_in}
use Rattle.words.specs.Words.{is_lf, lines, is_blank, words, is_hash, bare, is_digit, is_number, line}
use Rattle.words.proofs.Pieces.{pieces_ended, pieces_last}
use Rattle.terms.specs.Terms.{Says, term, says, says_by, is_input, dot, characters, term_lines}
use Rattle.terms.proofs.Cubes.{input_cases, characters_long, characters_inputs}

-- ---- words that can be written

-- a character that ends no word and no line, and opens no comment
abbrev pub plain : ℕ → Bool
plain c = not (is_lf c) && not (is_blank c) && not (is_hash c)

abbrev pub is_word : List ℕ → Bool
is_word w = ltb 0 (length w) && each_in plain w

-- a weaker test is passed too, and so is a test of two lists by both together
each_weaker : {A : Type 0} (t u : A → Bool) → ((a : A) → t a ≡ true → u a ≡ true) → (l : List A) → each_in t l ≡ true
    → each_in u l ≡ true
each_weaker t u f l e = each_if u l (λ a i. f a (each_at t a l e i))

each_join : {A : Type 0} (t : A → Bool) (l m : List A) → each_in t l ≡ true → each_in t m ≡ true → each_in t (l ++ m) ≡ true
each_join t l m e f = each_if t (l ++ m) (λ a i. ⊎_elim (each_at t a l e) (each_at t a m f) (in_either a l m i))

-- a line without its LF
joined : List (List ℕ) → List ℕ
joined [] = []
joined (w ∷ []) = w
joined (w ∷ v ∷ ws) = w ++ (32 ∷ joined (v ∷ ws))

line_joined : (w : List ℕ) (ws : List (List ℕ)) (rest : List ℕ) → line (w ∷ ws) ++ rest ≡ joined (w ∷ ws) ++ (10 ∷ rest)
unfolding joined line
line_joined w [] rest = append_snoc w 10 rest
line_joined w (v ∷ ws) rest =
    append_assoc w (32 ∷ line (v ∷ ws)) rest ∙ ap (λ (l : List ℕ). w ++ (32 ∷ l)) (line_joined v ws rest)
    ∙ sym (append_assoc w (32 ∷ joined (v ∷ ws)) (10 ∷ rest))

-- what blanks and plain characters pass, the line does
each_joined : (t : ℕ → Bool) → t 32 ≡ true → ((c : ℕ) → plain c ≡ true → t c ≡ true) → (ws : List (List ℕ))
    → each_in is_word ws ≡ true → each_in t (joined ws) ≡ true
unfolding joined each_in
each_joined t blank f [] e = refl
each_joined t blank f (w ∷ []) e = each_weaker plain t f w (both_right (ltb 0 (length w)) _ (both_left (is_word w) _ e))
each_joined t blank f (w ∷ v ∷ ws) e =
    each_join t w (32 ∷ joined (v ∷ ws)) (each_weaker plain t f w (both_right (ltb 0 (length w)) _ (both_left (is_word w) _ e)))
    (both blank (each_joined t blank f (v ∷ ws) (both_right (is_word w) _ e)))

-- a line without # is bare
bare_whole : (s : List ℕ) → each_in (λ c. not (is_hash c)) s ≡ true → bare s ≡ s
unfolding each_in passed_over
bare_whole [] e = refl
bare_whole (c ∷ s) e =
    simp (not-true (is_hash c) (both_left (not (is_hash c)) _ e))
    (ap (λ (l : List ℕ). c ∷ l) (bare_whole s (both_right (not (is_hash c)) _ e)))

free_of_blanks : (w : List ℕ) → is_word w ≡ true → each_in (λ c. not (is_blank c)) w ≡ true
free_of_blanks w e =
    each_weaker plain (λ c. not (is_blank c))
    (λ c p. both_right (not (is_lf c)) _ (both_left (not (is_lf c) && not (is_blank c)) _ p)) w
    (both_right (ltb 0 (length w)) _ e)

-- its words are those that were joined
words_joined : (w : List ℕ) (ws : List (List ℕ)) → each_in is_word (w ∷ ws) ≡ true → words (joined (w ∷ ws)) ≡ w ∷ ws
unfolding joined each_in filter
words_joined w [] e =
    let word = both_left (is_word w) _ e in
    let long = both_left (ltb 0 (length w)) _ word in
    ap (filter (λ w. ltb 0 (length w))) (pieces_last is_blank w (ltb-true 0 (length w) long) (free_of_blanks w word))
    ∙ ap (λ (t : Bool). cond t (w ∷ []) []) long
words_joined w (v ∷ ws) e =
    let word = both_left (is_word w) _ e in
    let more = words (joined (v ∷ ws)) in
    ap (filter (λ w. ltb 0 (length w))) (pieces_ended is_blank w 32 (joined (v ∷ ws)) (free_of_blanks w word) refl)
    ∙ ap (λ (t : Bool). cond t (w ∷ more) more) (both_left (ltb 0 (length w)) _ word)
    ∙ ap (λ (l : List (List ℕ)). w ∷ l) (words_joined v ws (both_right (is_word w) _ e))

-- ---- a written line, with whatever follows

pub line_says : (w : List ℕ) (ws : List (List ℕ)) (rest : List ℕ) → each_in is_word (w ∷ ws) ≡ true
    → map says (lines (line (w ∷ ws) ++ rest)) ≡ says_by (w ∷ ws) ∷ map says (lines rest)
line_says w ws rest e =
    ap (λ (l : List ℕ). map says (lines l)) (line_joined w ws rest)
    ∙ ap (map says) (pieces_ended is_lf (joined (w ∷ ws)) 10 rest (each_joined (λ c. not (is_lf c)) refl no_lf (w ∷ ws) e) refl)
    ∙ ap (λ (l : List (List ℕ)). says_by l ∷ map says (lines rest))
    (ap words (bare_whole (joined (w ∷ ws)) (each_joined (λ c. not (is_hash c)) refl no_hash (w ∷ ws) e)) ∙ words_joined w ws e)
  where
    no_lf : (c : ℕ) → plain c ≡ true → not (is_lf c) ≡ true
    no_lf c e = both_left (not (is_lf c)) _ (both_left (not (is_lf c) && not (is_blank c)) _ e)

    no_hash : (c : ℕ) → plain c ≡ true → not (is_hash c) ≡ true
    no_hash c e = both_right (not (is_lf c) && not (is_blank c)) _ e

-- a number is a word
pub number_word : (w : List ℕ) → is_number w ≡ true → is_word w ≡ true
number_word w e = both (both_left (ltb 0 (length w)) _ e) (each_weaker is_digit plain above w (both_right (ltb 0 (length w)) _ e))
  where
    above : (c : ℕ) → is_digit c ≡ true → plain c ≡ true
    above c d =
        let h = leb-true 48 c (both_left (leb 48 c) _ d) in
        simp (
          ne_eqb c 10 (λ q. omega (arith, h, q)),
          ne_eqb c 32 (λ q. omega (arith, h, q)),
          ne_eqb c 9 (λ q. omega (arith, h, q)),
          ne_eqb c 13 (λ q. omega (arith, h, q)),
          ne_eqb c 35 (λ q. omega (arith, h, q)),
        )

-- ---- term lines

-- what the lines of a list of cubes say
unfoldable pub terms_said : ℕ → ℕ → List ℕ → List Says
terms_said n out [] = []
terms_said n out (P ∷ []) = []
terms_said n out (P ∷ N ∷ cubes) = term (characters n P N) ((out ∷ []) ∷ []) ∷ terms_said n out cubes

inputs_word : (w : List ℕ) → 0 < length w → each_in is_input w ≡ true → is_word w ≡ true
inputs_word w h e =
    both (lt-ltb 0 (length w) h) (each_weaker is_input plain (input_cases (λ c. plain c ≡ true) refl refl refl) w e)

term_says : (w : List ℕ) (ws : List (List ℕ)) → 0 < length w → each_in is_input w ≡ true → says_by (w ∷ ws) ≡ term w ws
unfolding says_by
term_says w ws h e =
    simp (input_cases (λ c. eqb c dot ≡ false) refl refl refl (get_or w 0 0)
    (each_at is_input (get_or w 0 0) w e (getD_in w 0 h)))

pub term_lines_say : (n out : ℕ) → 1 ≤ n → plain out ≡ true → (cubes rest : List ℕ)
    → map says (lines (term_lines n out cubes ++ rest)) ≡ terms_said n out cubes ++ map says (lines rest)
unfolding each_in term_lines terms_said
term_lines_say n out h p [] rest = refl
term_lines_say n out h p (P ∷ []) rest = refl
term_lines_say n out h p (P ∷ N ∷ cubes) rest =
    let w = characters n P N in
    let ws = (out ∷ []) ∷ [] in
    let long : 0 < length w = omega (arith, h, characters_long n P N) in
    let right = characters_inputs n P N in
    ap (λ (l : List ℕ). map says (lines l)) (append_assoc (line (w ∷ ws)) (term_lines n out cubes) rest)
    ∙ line_says w ws (term_lines n out cubes ++ rest) (both (inputs_word w long right) (both (both p refl) refl))
    ∙ ap₂ ◌∷◌ (term_says w ws long right) (term_lines_say n out h p cubes rest)
