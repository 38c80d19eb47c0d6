-- Scans of a text and of words: what remains from the place reached on decides.
use Prim.Native.Nat.{ℕ, zero, suc, ◌+◌, ◌*◌, ◌-◌, ◌/◌, ◌≤◌, ◌<◌, min}
use mathlib.Core.Path.{◌≡◌, refl, sym, ap, ap₂, ◌∙◌}
use mathlib.Core.Bool.{Bool, true, false, cond, ◌&&◌}
use mathlib.Core.List.{List, [], ◌∷◌}
use native.Mathlib.Numerals.{add-one}
use native.Mathlib.Omega.{arith}
use borrow.Author.Tests.{eq-eqb, ne_eqb, lt-ltb}
use lib.Dec.{eqb}
use lib.ListN.{length, get_or, take, drop, length-drop, drop_of_length-le}
use lib.Seq.{drop-cons, drop-drop}
use Rattle.std.specs.Cmp.Lexicographic.{pointwise}
use Rattle.std.specs.Int.{w8, w64, from_le_bytes}
use Rattle.std.specs.Simd.{first_chunks}
use Rattle.std.specs.declared.option.Option.{Option}
use Rattle.std.specs.declared.option.Option.TheVariants.{None, Some}
use Rattle.std.proofs.Common.{Fits}
use Rattle.std.proofs.Math.Facts.{Fits-lt-pow}
use Rattle.std.proofs.lemmas.List.{take_rest, length-take-le, get_or-drop}
use Rattle.bits.proofs.Tests.{not_passed}
use Rattle.rules.specs.Lists.{passed_over, each_in, same}
use Rattle.rules.proofs.Lists.{same_is}
use Rattle.words.specs.Counted.{most, counted}
use Rattle.words.specs.Eight.{bytes}
use Rattle.words.specs.Words.{is_lf, is_digit, read_on}
use Rattle.words.proofs.Marks.{bytes_read}
use Rattle.words.proofs.Pieces.{over_from}

-- what stands at a place, and what comes after it
pub from_here : (s : List ℕ) (i : ℕ) → i < length s → drop i s ≡ get_or s i 0 ∷ drop (i + 1) s
from_here s i h = drop-cons s i 0 h ∙ ap (λ (k : ℕ). get_or s i 0 ∷ drop k s) (sym (add-one i))

-- ---- the first character that passes a test

module _ (p : ℕ → Bool) (s : List ℕ) (at : ℕ) where
  -- the scan from `at` has come to `i`, and none before it passes
  pub record Scan (i : ℕ) : Type 0 where
    pub within : i ≤ length s
    pub rest : i + passed_over p (drop i s) ≡ at + passed_over p (drop at s)

  pub scan_starts : at ≤ length s → Scan at
  scan_starts h = record { within = h; rest = refl }

  module _ (i : ℕ) (w : Scan i) where
    scan_step : i < length s → passed_over p (drop i s) ≡ cond (p (get_or s i 0)) 0 (suc (passed_over p (drop (i + 1) s)))
    unfolding passed_over
    scan_step h = ap (passed_over p) (from_here s i h)

    pub scan_found : i < length s → p (get_or s i 0) ≡ true → i ≡ at + passed_over p (drop at s)
    scan_found h e = omega (arith, w.rest, simp e at (scan_step h))

    pub scan_goes : i < length s → p (get_or s i 0) ≡ false → Scan (i + 1)
    scan_goes h e = record { within = omega arith; rest = omega (arith, w.rest, simp e at (scan_step h)) }

    pub scan_ends : length s ≤ i → i ≡ at + passed_over p (drop at s)
    unfolding passed_over
    scan_ends h = omega (arith, w.rest, ap (passed_over p) (drop_of_length-le s h))

-- the first n characters decide where one of them passes
front_over : (p : ℕ → Bool) (n : ℕ) (l : List ℕ) → passed_over p (take n l) ≡ min n (passed_over p l)
unfolding passed_over
front_over p zero l = omega arith
front_over p (suc n) [] = omega arith
front_over p (suc n) (c ∷ l) = go (p c) (front_over p n l)
  where
    go : (t : Bool) → passed_over p (take n l) ≡ min n (passed_over p l)
        → cond t 0 (suc (passed_over p (take n l))) ≡ min (suc n) (cond t 0 (suc (passed_over p l)))
    go true e = omega arith
    go false e = omega arith

-- ---- the end of a line

pub lf_here : (s : List ℕ) (i : ℕ) → i < length s → get_or s i 0 ≡ 10 → passed_over is_lf (drop i s) ≡ 0
unfolding passed_over
lf_here s i h e = ap (passed_over is_lf) (from_here s i h) ∙ simp e

bytes_front : (n : ℕ) (l : List ℕ) → ((j : ℕ) → get_or l j 0 < 256) → (j : ℕ) → get_or (take n l) j 0 < 256
bytes_front zero l small j = omega arith
bytes_front (suc n) [] small j = omega arith
bytes_front (suc n) (c ∷ l) small zero = small 0
bytes_front (suc n) (c ∷ l) small (suc j) = bytes_front n l (λ k. small (suc k)) j

-- a chunk of a text that is cut into chunks of eight
chunk_at : (n i : ℕ) (l : List ℕ) → i < n → get_or (first_chunks 8 n l) i [] ≡ take 8 (drop (8 * i) l)
chunk_at zero i l h = absurd (omega (arith, h))
chunk_at (suc n) zero l h = refl
chunk_at (suc n) (suc i) l h =
    chunk_at n i (drop 8 l) (omega (arith, h)) ∙ ap (take 8) (drop-drop (8 * i) 8 l ∙ ap (λ (j : ℕ). drop j l) (omega arith))

-- the k-th chunk of the text from `at` on, read as one number
module _ (s : List ℕ) (at k : ℕ) (chunks : List (List ℕ)) (x : ℕ) (small : (j : ℕ) → Fits w8 (get_or s j 0))
    (cut : chunks ≡ first_chunks 8 (length (take (length s - at) (drop at s)) / 8) (take (length s - at) (drop at s)))
    (count : length chunks ≡ length (take (length s - at) (drop at s)) / 8) (within : k < length chunks)
    (read : x ≡ from_le_bytes w64 (get_or chunks k [])) where
  abbrev from : ℕ → List ℕ
  from i = drop (at + 8 * i) s

  chunk : get_or chunks k [] ≡ take 8 (from k)
  chunk =
      ap (λ (c : List (List ℕ)). get_or c k []) cut ∙ chunk_at _ k _ (omega (arith, count, within))
      ∙ ap (λ (l : List ℕ). take 8 (drop (8 * k) l)) (take_rest s at) ∙ ap (take 8) (drop-drop (8 * k) at s)

  enough : 8 ≤ length (from k)
  enough = omega (arith, count, within, ap length (take_rest s at), length-drop at s, length-drop (at + 8 * k) s)

  eight : bytes 8 x ≡ take 8 (from k)
  eight =
      bytes_read (take 8 (from k)) x (length-take-le 8 (from k) enough)
      (bytes_front 8 (from k) (λ j. omega (arith, get_or-drop (at + 8 * k) s j 0, Fits-lt-pow (small (at + 8 * k + j)))))
      (read ∙ ap (from_le_bytes w64) chunk)

  -- how many of its characters come before the first LF, and where none is LF
  pub eight_over : passed_over is_lf (bytes 8 x) ≡ min 8 (passed_over is_lf (from k))
  eight_over = ap (passed_over is_lf) eight ∙ front_over is_lf 8 (from k)

  pub lf_beyond : 8 ≤ passed_over is_lf (bytes 8 x) → passed_over is_lf (from k) ≡ 8 + passed_over is_lf (from (k + 1))
  lf_beyond h =
      over_from is_lf 8 (from k) (omega (arith, h, eight_over))
      ∙ ap (λ (l : List ℕ). 8 + passed_over is_lf l) (drop-drop 8 (at + 8 * k) s ∙ ap (λ (i : ℕ). drop i s) (omega arith))

-- ---- two words compared

pub other_length : (w v : List ℕ) → (length w ≡ length v → ⊥) → same w v ≡ false
other_length w v h = not_passed (same w v) (λ e. h (ap length (same_is w v e)))

module _ (w v : List ℕ) where
  -- they are alike before `i`, and what remains from there on decides
  pub record Alike (i : ℕ) : Type 0 where
    pub within : i ≤ length w
    pub long : length w ≡ length v
    pub rest : same (drop i w) (drop i v) ≡ same w v

  pub alike_starts : length w ≡ length v → Alike 0
  alike_starts h = record { within = omega arith; long = h; rest = refl }

  module _ (i : ℕ) (k : Alike i) where
    alike_step : i < length w → same w v ≡ eqb (get_or w i 0) (get_or v i 0) && same (drop (i + 1) w) (drop (i + 1) v)
    unfolding same
    alike_step h = sym k.rest ∙ ap₂ same (from_here w i h) (from_here v i (omega arith))

    pub alike_not : i < length w → (get_or w i 0 ≡ get_or v i 0 → ⊥) → same w v ≡ false
    alike_not h e = alike_step h ∙ simp (ne_eqb _ _ e)

    pub alike_goes : i < length w → get_or w i 0 ≡ get_or v i 0 → Alike (i + 1)
    alike_goes h e = record { within = omega arith; long = k.long; rest = sym (alike_step h ∙ simp (eq-eqb _ _ e)) }

    pub alike_ends : length w ≤ i → same w v ≡ true
    unfolding same
    alike_ends h = sym k.rest ∙ ap₂ same (drop_of_length-le w h) (drop_of_length-le v {i = i} (omega (arith, k.long)))

pub same_pointwise : (w v : List ℕ) → pointwise eqb w v ≡ same w v
unfolding same
same_pointwise [] [] = refl
same_pointwise [] (b ∷ v) = refl
same_pointwise (a ∷ w) [] = refl
same_pointwise (a ∷ w) (b ∷ v) = ap (λ (t : Bool). eqb a b && t) (same_pointwise w v)

-- ---- a number read

-- a number at or above a bound stays there, so it may be cut at any time
pub cut_early : (m x : ℕ) (ds : List ℕ) → min (read_on x ds) m ≡ min (read_on (min x m) ds) m
unfolding read_on
cut_early m x [] = omega arith
cut_early m x (d ∷ ds) =
    let both : min (10 * x + (d - 48)) m ≡ min (10 * min x m + (d - 48)) m = omega arith in
    cut_early m (10 * x + (d - 48)) ds
    ∙ ap (λ (y : ℕ). min (read_on y ds) m) both
    ∙ sym (cut_early m (10 * min x m + (d - 48)) ds)

-- one digit more
abbrev pub then_digit : ℕ → ℕ → ℕ
then_digit x d = min (10 * x + (d - 48)) most

-- what the code makes of the characters from here on, with the number `x` so far
unfoldable pub reading : ℕ → List ℕ → Option ℕ
reading x [] = Some x
reading x (d ∷ ds) = cond (is_digit d) (reading (then_digit x d) ds) None

abbrev read_all : ℕ → List ℕ → Option ℕ
read_all x ds = Some (min (read_on x ds) most)

reads_on : (x : ℕ) (ds : List ℕ) → x ≤ most → reading x ds ≡ cond (each_in is_digit ds) (read_all x ds) None
unfolding reading read_on each_in
reads_on x [] h = ap Some (omega arith)
reads_on x (d ∷ ds) h = go (is_digit d) (reads_on (then_digit x d) ds (omega arith))
  where
    go : (t : Bool) → reading (then_digit x d) ds ≡ cond (each_in is_digit ds) (read_all (then_digit x d) ds) None
        → cond t (reading (then_digit x d) ds) None ≡ cond (t && each_in is_digit ds) (read_all (10 * x + (d - 48)) ds) None
    go true e = simp (cut_early most (10 * x + (d - 48)) ds) e
    go false e = refl

-- a word that has no character, and one that has some

pub counted_empty : (w : List ℕ) → length w ≡ 0 → counted w ≡ None
unfolding counted
counted_empty [] h = refl
counted_empty (d ∷ w) h = absurd (omega (arith, h))

pub counted_reads : (w : List ℕ) → 0 < length w → counted w ≡ reading 0 w
unfolding counted
counted_reads w h = simp (lt-ltb 0 (length w) h) (sym (reads_on 0 w (omega arith)))

-- the steps of the loop

pub reading_step : (x : ℕ) (s : List ℕ) (i : ℕ) → i < length s
    → reading x (drop i s) ≡ cond (is_digit (get_or s i 0)) (reading (then_digit x (get_or s i 0)) (drop (i + 1) s)) None
unfolding reading
reading_step x s i h = ap (reading x) (from_here s i h)

pub reading_ends : (x : ℕ) (s : List ℕ) (i : ℕ) → length s ≤ i → reading x (drop i s) ≡ Some x
unfolding reading
reading_ends x s i h = ap (reading x) (drop_of_length-le s h)

pub ruleset reading_steps = (counted_empty, counted_reads, reading_step, reading_ends)
