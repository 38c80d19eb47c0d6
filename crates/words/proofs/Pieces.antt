-- The pieces of a text, one by one: the first goes up to the first character that passes the test, and the pieces behind that
-- character follow.
use Prim.Native.Nat.{ℕ, zero, suc, ◌+◌, ◌≤◌, ◌<◌}
use mathlib.Core.Path.{◌≡◌, refl, sym, ap, ◌∙◌}
use mathlib.Core.Bool.{Bool, true, false, cond, not, ◌||◌, false≢true}
use mathlib.Core.List.{List, [], ◌∷◌, ◌++◌}
use mathlib.Core.Logic.{⊎_elim}
use native.Mathlib.Omega.{arith}
use borrow.Author.Tests.{not-true, lt-ltb}
use lib.Dec.{ltb}
use lib.ListN.{length, get_or, take, drop, length-take, drop_of_length-le}
use lib.Seq.{drop-cons}
use Rattle.std.specs.List.{position_or_len}
use Rattle.std.proofs.lemmas.List.Recursion.{is_position_or_len}
use Rattle.std.proofs.lemmas.List.Sums.{prefix_len-le-length, passes_at_first}
use Rattle.bits.proofs.Tests.{both_left, both_right, below_or_not}
use Rattle.rules.specs.Lists.{filter, each_in, passed_over}
use Rattle.words.specs.Words.{onto, pieces, before, words, bare, is_blank, is_lf, is_hash, ends_bare}

module _ (p : ℕ → Bool) where
  -- ---- the place of the first character that passes: not beyond the end, the first such, and not the start if that fails

  -- std has it under another name
  pub is_position : (s : List ℕ) → passed_over p s ≡ position_or_len p s
  unfolding passed_over
  is_position s = is_position_or_len (passed_over p) p refl (λ c s. ap (cond (p c) 0) (omega arith)) s

  pub passed_over_within : (s : List ℕ) → passed_over p s ≤ length s
  passed_over_within s = omega (arith, is_position s, prefix_len-le-length (λ c. not (p c)) s)

  pub place_passes : (s : List ℕ) → passed_over p s < length s → p (get_or s (passed_over p s) 0) ≡ true
  place_passes s h = ap (λ (k : ℕ). p (get_or s k 0)) (is_position s) ∙ passes_at_first p s 0 (omega (arith, is_position s))

  pub before_fails : (s : List ℕ) (i : ℕ) → i < passed_over p s → p (get_or s i 0) ≡ false
  unfolding passed_over
  before_fails [] i h = absurd (omega (arith, h))
  before_fails (c ∷ s) i h = go (p c) refl i h (before_fails s)
    where
      go : (b : Bool) → p c ≡ b → (i : ℕ) → i < cond b 0 (suc (passed_over p s)) → ((i : ℕ) → i < passed_over p s → p (get_or s i 0) ≡ false)
          → p (get_or (c ∷ s) i 0) ≡ false
      go true e i h later = absurd (omega (arith, h))
      go false e zero h later = e
      go false e (suc i) h later = later i (omega (arith, h))

  pub some_before : (s : List ℕ) → 0 < length s → p (get_or s 0 0) ≡ false → 0 < passed_over p s
  unfolding passed_over
  some_before [] h e = absurd (omega (arith, h))
  some_before (c ∷ s) h e = simp e (omega arith)

  -- from a place on that is not beyond it, the first that passes is the same
  pub over_from : (k : ℕ) (s : List ℕ) → k ≤ passed_over p s → passed_over p s ≡ k + passed_over p (drop k s)
  unfolding passed_over
  over_from zero s h = omega arith
  over_from (suc k) [] h = absurd (omega (arith, h))
  over_from (suc k) (c ∷ s) h = go (p c) h (over_from k s)
    where
      go : (b : Bool) → suc k ≤ cond b 0 (suc (passed_over p s))
          → (k ≤ passed_over p s → passed_over p s ≡ k + passed_over p (drop k s))
          → cond b 0 (suc (passed_over p s)) ≡ suc k + passed_over p (drop k s)
      go true h later = absurd (omega (arith, h))
      go false h later = omega (arith, later (omega (arith, h)))

  -- and so is what stands before it, but for the part in front
  pub before_from : (k : ℕ) (s : List ℕ) → k ≤ passed_over p s → drop k (before p s) ≡ before p (drop k s)
  unfolding passed_over
  before_from zero s h = refl
  before_from (suc k) [] h = refl
  before_from (suc k) (c ∷ s) h = go (p c) h (before_from k s)
    where
      go : (b : Bool) → suc k ≤ cond b 0 (suc (passed_over p s))
          → (k ≤ passed_over p s → drop k (before p s) ≡ before p (drop k s))
          → drop (suc k) (take (cond b 0 (suc (passed_over p s))) (c ∷ s)) ≡ before p (drop k s)
      go true h later = absurd (omega (arith, h))
      go false h later = later (omega (arith, h))

  -- ---- pieces

  pub pieces_step : (s : List ℕ) → 0 < length s → pieces p s ≡ before p s ∷ pieces p (drop (suc (passed_over p s)) s)
  unfolding passed_over pieces onto
  pieces_step [] h = absurd (omega (arith, h))
  pieces_step (c ∷ s) h = go (p c) s (pieces_step s)
    where
      go : (b : Bool) (s : List ℕ) → (0 < length s → pieces p s ≡ before p s ∷ pieces p (drop (suc (passed_over p s)) s))
          → cond b ([] ∷ pieces p s) (onto c (pieces p s))
          ≡ take (cond b 0 (suc (passed_over p s))) (c ∷ s) ∷ pieces p (drop (suc (cond b 0 (suc (passed_over p s)))) (c ∷ s))
      go true s later = refl
      go false [] later = refl
      go false (d ∷ s) later = ap (onto c) (later (omega arith))

  abbrev none_passes : List ℕ → Bool
  none_passes w = each_in (λ c. not (p c)) w

  none_first : (a : ℕ) (w : List ℕ) → none_passes (a ∷ w) ≡ true → (p a ≡ false) × (none_passes w ≡ true)
  unfolding each_in
  none_first a w f = (not-true (p a) (both_left (not (p a)) (none_passes w) f), both_right (not (p a)) (none_passes w) f)

  -- characters none of which passes, and then one that does
  pub pieces_ended : (w : List ℕ) (c : ℕ) (s : List ℕ) → none_passes w ≡ true → p c ≡ true
      → pieces p (w ++ (c ∷ s)) ≡ w ∷ pieces p s
  unfolding pieces onto
  pieces_ended [] c s f e = simp e
  pieces_ended (a ∷ w) c s f e = let n = none_first a w f in simp n.0 (ap (onto a) (pieces_ended w c s n.1 e))

  -- or the text's end
  pub pieces_last : (w : List ℕ) → 0 < length w → none_passes w ≡ true → pieces p w ≡ w ∷ []
  unfolding pieces onto
  pieces_last [] h f = absurd (omega (arith, h))
  pieces_last (a ∷ []) h f = simp (none_first a [] f).0
  pieces_last (a ∷ b ∷ w) h f = let n = none_first a (b ∷ w) f in simp n.0 (ap (onto a) (pieces_last (b ∷ w) (omega arith) n.1))

-- ---- two tests

module _ (p q : ℕ → Bool) where
  abbrev either : ℕ → Bool
  either c = p c || q c

  -- what stands before the first that passes the one or the other
  pub before_both : (s : List ℕ) → before q (before p s) ≡ before either s
  unfolding passed_over
  before_both [] = refl
  before_both (c ∷ s) = go (p c) (q c) refl (before_both s)
    where
      go : (a b : Bool) → q c ≡ b → before q (before p s) ≡ before either s
          → before q (take (cond a 0 (suc (passed_over p s))) (c ∷ s))
          ≡ take (cond (a || b) 0 (suc (passed_over either s))) (c ∷ s)
      go true b e later = refl
      go false true e later = simp e
      go false false e later = simp e (ap (λ (l : List ℕ). c ∷ l) later)

  -- the first that passes the one is not before that place
  pub over_both : (s : List ℕ) → passed_over p s ≡ passed_over either s + passed_over p (drop (passed_over either s) s)
  unfolding passed_over
  over_both [] = refl
  over_both (c ∷ s) = go (p c) (q c) refl (over_both s)
    where
      go : (a b : Bool) → p c ≡ a → passed_over p s ≡ passed_over either s + passed_over p (drop (passed_over either s) s)
          → cond a 0 (suc (passed_over p s))
          ≡ cond (a || b) 0 (suc (passed_over either s))
          + passed_over p (drop (cond (a || b) 0 (suc (passed_over either s))) (c ∷ s))
      go true b e later = simp e
      go false true e later = simp e (omega arith)
      go false false e later = omega (arith, later)

  -- before the first that passes the other, a scan for the one ends where a scan for either would
  pub over_before : (s : List ℕ) → passed_over p (before q s) ≡ passed_over either s
  unfolding passed_over
  over_before [] = refl
  over_before (c ∷ s) = go (p c) (q c) refl (over_before s)
    where
      go : (a b : Bool) → p c ≡ a → passed_over p (before q s) ≡ passed_over either s
          → passed_over p (take (cond b 0 (suc (passed_over q s))) (c ∷ s)) ≡ cond (a || b) 0 (suc (passed_over either s))
      go true true e later = refl
      go false true e later = refl
      go true false e later = simp e
      go false false e later = simp e (ap suc later)

  -- where that does pass the one, the scan for the one does not notice
  pub over_implied : ((c : ℕ) → q c ≡ true → p c ≡ true) → (s : List ℕ) → passed_over p (before q s) ≡ passed_over p s
  unfolding passed_over
  over_implied so [] = refl
  over_implied so (c ∷ s) = go (p c) (q c) refl (so c) (over_implied so s)
    where
      go : (a b : Bool) → p c ≡ a → (b ≡ true → p c ≡ true) → passed_over p (before q s) ≡ passed_over p s
          → passed_over p (take (cond b 0 (suc (passed_over q s))) (c ∷ s)) ≡ cond a 0 (suc (passed_over p s))
      go true true e so later = refl
      go false true e so later = absurd (false≢true (sym e ∙ so refl))
      go true false e so later = simp e
      go false false e so later = simp e (ap suc later)

-- the part of a line before its comment
pub bare_line : (s : List ℕ) → bare (before is_lf s) ≡ before ends_bare s
bare_line s = before_both is_lf is_hash s

pub line_beyond : (s : List ℕ)
    → passed_over is_lf s ≡ passed_over ends_bare s + passed_over is_lf (drop (passed_over ends_bare s) s)
line_beyond s = over_both is_lf is_hash s

-- ---- words

abbrev to_word : List ℕ → ℕ
to_word s = passed_over (λ c. not (is_blank c)) s

pub words_none : words [] ≡ []
unfolding pieces filter
words_none = refl

blank_before : (c : ℕ) (s : List ℕ) → is_blank c ≡ true → words (c ∷ s) ≡ words s
unfolding pieces filter
blank_before c s e = simp e

-- blanks in front do not matter
pub words_from : (s : List ℕ) → words s ≡ words (drop (to_word s) s)
unfolding passed_over
words_from [] = refl
words_from (c ∷ s) = go (is_blank c) refl (words_from s)
  where
    go : (b : Bool) → is_blank c ≡ b → words s ≡ words (drop (to_word s) s)
        → words (c ∷ s) ≡ words (drop (cond (not b) 0 (suc (to_word s))) (c ∷ s))
    go true e later = blank_before c s e ∙ later
    go false e later = refl

-- behind a word comes a blank, or nothing
blank_after : (s : List ℕ) → words (drop (passed_over is_blank s) s) ≡ words (drop (suc (passed_over is_blank s)) s)
blank_after s =
    let k = passed_over is_blank s in
    ⊎_elim (λ (h : k < length s). ap words (drop-cons s k 0 h) ∙ blank_before _ _ (place_passes is_blank s h))
    (λ (h : length s ≤ k). ap words (drop_of_length-le s h ∙ sym (drop_of_length-le s {i = suc k} (omega (arith, h)))))
    (below_or_not k (length s))

-- a word that begins here goes up to the next blank
pub words_step : (s : List ℕ) → 0 < length s → is_blank (get_or s 0 0) ≡ false
    → words s ≡ before is_blank s ∷ words (drop (passed_over is_blank s) s)
unfolding filter
words_step s h e =
    let w = before is_blank s in
    let more = words (drop (suc (passed_over is_blank s)) s) in
    ap (filter (λ w. ltb 0 (length w))) (pieces_step is_blank s h)
    ∙ ap (λ (t : Bool). cond t (w ∷ more) more)
    (lt-ltb 0 (length w) (omega (arith, length-take (passed_over is_blank s) s, some_before is_blank s h e)))
    ∙ ap (λ (l : List (List ℕ)). w ∷ l) (sym (blank_after s))
