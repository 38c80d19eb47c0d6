-- Term lines, while they are written: one line character by character, and the lines of a list, of which what is stored, followed
-- by what is still to come, is the whole; and how long they are.
use Prim.Native.Nat.{ℕ, zero, suc, ◌+◌, ◌*◌, ◌/◌, ◌≤◌, ◌<◌}
use mathlib.Core.Path.{◌≡◌, refl, sym, ap, ◌∙◌}
use mathlib.Core.Bool.{cond}
use mathlib.Core.List.{List, [], ◌∷◌, ◌++◌, map}
use native.Mathlib.Nat.{add-zero, suc-mul}
use native.Mathlib.Numerals.{add-one}
use native.Mathlib.Omega.{arith}
use lib.ListN.{length, get_or, drop, set, length-append, drop_of_length-le}
use lib.Seq.{sets, drop-cons}
use Rattle.bits.specs.Bits.{has}
use Rattle.cubes.specs.Values.{in_pairs}
use Rattle.answers.proofs.Stores.{sets_join}
use Rattle.rules.specs.Lists.{run}
use Rattle.words.specs.Words.{line}
use Rattle.words.proofs.Decimals.{behind, one_behind}
use Rattle.terms.specs.Terms.{on_char, off_char, dash, characters, term_lines}
use Rattle.terms.proofs.Cubes.{characters_long}

-- ---- one line

-- the character of input i
abbrev pub character_of : ℕ → ℕ → ℕ → ℕ
character_of P N i = cond (has P i) on_char (cond (has N i) off_char dash)

-- n characters, a blank, the output and LF
abbrev pub term_line : ℕ → ℕ → ℕ → ℕ → List ℕ
term_line n P N c = line (characters n P N ∷ (c ∷ []) ∷ [])

pub line_long : (n P N c : ℕ) → length (term_line n P N c) ≡ n + 3
unfolding line
line_long n P N c = length-append (characters n P N) (32 ∷ c ∷ 10 ∷ []) ∙ ap (λ (k : ℕ). k + 3) (characters_long n P N)

run_more : (f : ℕ → ℕ) (a n : ℕ) → map f (run a (suc n)) ≡ map f (run a n) ++ (f (a + n) ∷ [])
unfolding run
run_more f a zero = ap (λ (k : ℕ). f k ∷ []) (sym (add-zero a))
run_more f a (suc n) =
    ap (λ (l : List ℕ). f a ∷ l) (run_more f (suc a) n ∙ ap (λ (k : ℕ). map f (run (suc a) n) ++ (f k ∷ [])) (omega arith))

module _ (P N n start : ℕ) (before : List ℕ) where
  -- none is stored, one more is, and the blank, the output and LF follow the last
  pub none_stored : sets before start (characters 0 P N) ≡ before
  unfolding run
  none_stored = refl

  pub one_stored : set (sets before start (characters n P N)) (start + n) (character_of P N n)
      ≡ sets before start (characters (n + 1) P N)
  one_stored =
      ap (λ (k : ℕ). set (sets before start (characters n P N)) (start + k) (character_of P N n)) (sym (characters_long n P N))
      ∙ one_behind before (characters n P N) start (character_of P N n)
      ∙ ap (sets before start)
      (ap (λ (k : ℕ). characters n P N ++ (character_of P N k ∷ [])) (omega arith) ∙ sym (run_more (character_of P N) 0 n)
      ∙ ap (λ (k : ℕ). characters k P N) (sym (add-one n)))

  pub line_stored : (c : ℕ)
      → sets (sets before start (characters n P N)) (start + n) (32 ∷ c ∷ 10 ∷ []) ≡ sets before start (term_line n P N c)
  unfolding line
  line_stored c =
      ap (λ (k : ℕ). sets (sets before start (characters n P N)) (start + k) (32 ∷ c ∷ 10 ∷ [])) (sym (characters_long n P N))
      ∙ sets_join before (characters n P N) (32 ∷ c ∷ 10 ∷ []) start

-- the steps of the loop over a line
pub ruleset line_steps = (none_stored, one_stored, line_stored)

-- ---- the lines of a list

module _ (n c : ℕ) where
  -- n + 3 bytes for each whole cube
  pub terms_long : (list : List ℕ) → length (term_lines n c list) ≡ length list / 2 * (n + 3)
  unfolding term_lines
  terms_long [] = omega arith
  terms_long (P ∷ []) = omega arith
  terms_long (P ∷ N ∷ list) =
      let half : suc (suc (length list)) / 2 ≡ suc (length list / 2) = omega arith in
      length-append (term_line n P N c) (term_lines n c list)
      ∙ omega (arith, line_long n P N c, terms_long list, suc-mul (length list / 2) (n + 3))
      ∙ ap (λ (k : ℕ). k * (n + 3)) (sym half)

  -- the lines of cubes that are kept as pairs
  abbrev pair_line : List ℕ → List ℕ
  pair_line p = term_line n (get_or p 0 0) (get_or p 1 0) c

  unfoldable pub pair_lines : List (List ℕ) → List ℕ
  pair_lines [] = []
  pair_lines (p ∷ ps) = pair_line p ++ pair_lines ps

  pub lines_paired : (list : List ℕ) → term_lines n c list ≡ pair_lines (in_pairs list)
  unfolding term_lines pair_lines in_pairs
  lines_paired [] = refl
  lines_paired (P ∷ []) = refl
  lines_paired (P ∷ N ∷ list) = ap (λ (l : List ℕ). term_line n P N c ++ l) (lines_paired list)

  module _ (ps : List (List ℕ)) (k : ℕ) where
    -- no pair is left
    pub none_left : length ps ≤ k → pair_lines (drop k ps) ≡ []
    unfolding pair_lines
    none_left h = ap pair_lines (drop_of_length-le ps h)

    module _ (d : List ℕ) (h : k < length ps) where
      -- the next pair's line, and those that come after it
      next_left : pair_lines (drop k ps) ≡ pair_line (get_or ps k d) ++ pair_lines (drop (k + 1) ps)
      unfolding pair_lines
      next_left =
          ap pair_lines (drop-cons ps k d h)
          ∙ ap (λ (j : ℕ). pair_line (get_or ps k d) ++ pair_lines (drop j ps)) (sym (add-one k))

      pub next_long : length (pair_lines (drop k ps)) ≡ (n + 3) + length (pair_lines (drop (k + 1) ps))
      next_long =
          ap length next_left ∙ length-append (pair_line (get_or ps k d)) (pair_lines (drop (k + 1) ps))
          ∙ ap (λ (m : ℕ). m + length (pair_lines (drop (k + 1) ps)))
          (line_long n (get_or (get_or ps k d) 0 0) (get_or (get_or ps k d) 1 0) c)

      pub next_stored : (out : List ℕ) (at : ℕ)
          → sets (sets out at (pair_line (get_or ps k d))) (at + (n + 3)) (pair_lines (drop (k + 1) ps))
          ≡ sets out at (pair_lines (drop k ps))
      next_stored out at =
          let this = pair_line (get_or ps k d) in
          behind out this _ at _ (pair_lines (drop (k + 1) ps)) refl
          (ap (λ (m : ℕ). at + m) (sym (line_long n (get_or (get_or ps k d) 0 0) (get_or (get_or ps k d) 1 0) c)))
          ∙ ap (sets out at) (sym next_left)

-- the steps of the loop over a list
pub ruleset list_steps = (lines_paired, none_left, next_long, next_stored)
