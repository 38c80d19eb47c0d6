-- Lists of cubes. The idea: a list is read as its pairs, so that std's words for lists say what a loop or a chain has seen so
-- far; what holds of some cube, or of each, goes from cube to cube.
use Prim.Native.Nat.{ℕ, zero, suc, ◌+◌, ◌-◌, ◌*◌, ◌/◌, ◌^◌, ◌≤◌, ◌<◌, min}
use mathlib.Core.Path.{◌≡◌, refl, sym, ap, ap₂, ◌∙◌, subst}
use mathlib.Core.Bool.{Bool, true, false, cond, ◌&&◌, ◌||◌, false≢true, and-false, and_comm, and-or_distrib_left}
use mathlib.Core.List.{List, [], ◌∷◌}
use mathlib.Core.Logic.{⊎_elim}
use native.Mathlib.Numerals.{add-one, add-two}
use native.Mathlib.Omega.{arith}
use mir.Val.{Fits}
use mir.Syntax.{w8}
use lib.Bits.{bit_and}
use lib.ListN.{length, get_or, take, drop, length-drop}
use lib.Pow.{pow_mono}
use lib.Seq.{drop-cons}
use Rattle.std.specs.Prelude.{is_some}
use Rattle.std.specs.declared.option.Option.{Option}
use Rattle.std.specs.declared.option.Option.TheVariants.{None, Some}
use Rattle.std.specs.List.{list_any, count_by, filter, range_with_len}
use Rattle.std.specs.Simd.{first_chunks}
use Rattle.std.proofs.Math.Facts.{Fits-lt-pow}
use Rattle.std.proofs.lemmas.Grind.{common_steps}
use Rattle.std.proofs.lemmas.List.Folds.{list_any_more}
use Rattle.std.proofs.lemmas.List.Sums.{length-filter, sum_by-cons}
use Rattle.bits.specs.Bits.{any, count, smallest, lesser}
use Rattle.bits.proofs.Tests.{either}
use Rattle.bits.proofs.Below.{any_or, any_never, any_same, count_same, count_low}
use Rattle.bits.proofs.Smallest.{Means, smallest_means, found_any, none_any, smallest_none, smallest_same, smallest_or}
use Rattle.cubes.specs.Cubes.{cube_holds, cubes_share, least_shared, some_cube, some_holds, least_with, patterns_held}
use Rattle.cubes.specs.Values.{in_pairs, number_of}
use Rattle.cubes.proofs.Masks.{as_cube}

-- what remains at a place with a whole cube: the cube, and what comes after it
pub cube_there : (l : List ℕ) (at : ℕ) → at + 1 < length l → drop at l ≡ get_or l at 0 ∷ get_or l (at + 1) 0 ∷ drop (at + 2) l
cube_there l at h = rw (add-one, add-two) (drop-cons l at 0 (omega arith) ∙ ap (λ (r : List ℕ). get_or l at 0 ∷ r) (drop-cons l (suc at) 0 (omega arith)))

module _ (t : ℕ → ℕ → Bool) where
  pub some_step : (l : List ℕ) (at : ℕ) → at + 1 < length l → some_cube t (drop at l) ≡ t (get_or l at 0) (get_or l (at + 1) 0) || some_cube t (drop (at + 2) l)
  unfolding some_cube
  some_step l at h = ap (some_cube t) (cube_there l at h)

  -- less than a cube remains
  some_short : (l : List ℕ) → length l ≤ 1 → some_cube t l ≡ false
  unfolding some_cube
  some_short [] h = refl
  some_short (P ∷ []) h = refl
  some_short (P ∷ N ∷ l) h = absurd (omega (arith, h))

  pub some_end : (l : List ℕ) (at : ℕ) → length l ≤ at + 1 → some_cube t (drop at l) ≡ false
  some_end l at h = some_short (drop at l) (omega (arith, length-drop at l))

-- the masks of a list of bytes are bytes
pub pair_bytes : (l : List ℕ) → ((i : ℕ) → get_or l i 0 < 256) → (k j : ℕ) → get_or (get_or (in_pairs l) k []) j 0 < 256
unfolding in_pairs
pair_bytes [] b k j = omega arith
pair_bytes (P ∷ []) b k j = omega arith
pair_bytes (P ∷ N ∷ l) b zero zero = b 0
pair_bytes (P ∷ N ∷ l) b zero (suc zero) = b 1
pair_bytes (P ∷ N ∷ l) b zero (suc (suc j)) = omega arith
pair_bytes (P ∷ N ∷ l) b (suc k) j = pair_bytes l (λ i. b (suc (suc i))) k j

-- as the code holds it
pub masks_here : (l : List ℕ) (ps : List (List ℕ)) → ((i : ℕ) → Fits w8 (get_or l i 0)) → ps ≡ in_pairs l → (k j : ℕ) → get_or (get_or ps k []) j 0 < 256
masks_here l ps b e k j =
    subst (λ (qs : List (List ℕ)). get_or (get_or qs k []) j 0 < 256) (sym e) (pair_bytes l (λ i. Fits-lt-pow (b i)) k j)

-- ---- every cube of a list

-- each cube of the list has the property
unfoldable pub Each : (ℕ → ℕ → Type 0) → List ℕ → Type 0
Each Q [] = Unit {0}
Each Q (P ∷ []) = Unit {0}
Each Q (P ∷ N ∷ rest) = Q P N × Each Q rest

-- 2 * k, two at a time
twice : ℕ → ℕ
twice zero = zero
twice (suc k) = suc (suc (twice k))

twice_is : (k : ℕ) → twice k ≡ 2 * k
unfolding twice
twice_is zero = refl
twice_is (suc k) = omega (arith, twice_is k)

module _ (Q : ℕ → ℕ → Type 0) where
  pub each_map : (R : ℕ → ℕ → Type 0) → ((P N : ℕ) → Q P N → R P N) → (l : List ℕ) → Each Q l → Each R l
  unfolding Each
  each_map R f [] e = tt
  each_map R f (P ∷ []) e = tt
  each_map R f (P ∷ N ∷ l) e = (f P N e.0, each_map R f l e.1)

  pub each_all : ((P N : ℕ) → Q P N) → (l : List ℕ) → Each Q l
  unfolding Each
  each_all f [] = tt
  each_all f (P ∷ []) = tt
  each_all f (P ∷ N ∷ l) = (f P N, each_all f l)

  -- of a list of bytes, each cube is two bytes
  pub each_bytes : (l : List ℕ) → ((i : ℕ) → get_or l i 0 < 2 ^ 8) → Each Q l → Each (λ P N. (P < 2 ^ 8) × (N < 2 ^ 8) × Q P N) l
  unfolding Each
  each_bytes [] b e = tt
  each_bytes (P ∷ []) b e = tt
  each_bytes (P ∷ N ∷ l) b e = ((b 0, b 1, e.0), each_bytes l (λ i. b (suc (suc i))) e.1)

  -- what follows from a cube that passes a test, where each has the property
  pub each_some : (R : Type 0) (t : ℕ → ℕ → Bool) → ((P N : ℕ) → Q P N → t P N ≡ true → R) → (l : List ℕ) → Each Q l → some_cube t l ≡ true → R
  unfolding Each some_cube
  each_some R t f [] e s = absurd (false≢true s)
  each_some R t f (P ∷ []) e s = absurd (false≢true s)
  each_some R t f (P ∷ N ∷ l) e s =
      ⊎_elim (λ (h : t P N ≡ true). f P N e.0 h) (λ (h : some_cube t l ≡ true). each_some R t f l e.1 h) (either (t P N) (some_cube t l) s)

  -- of a list cut after k cubes, both parts
  take_twice : (k : ℕ) (l : List ℕ) → Each Q l → Each Q (take (twice k) l)
  unfolding Each twice
  take_twice zero l e = tt
  take_twice (suc k) [] e = tt
  take_twice (suc k) (P ∷ []) e = tt
  take_twice (suc k) (P ∷ N ∷ l) e = (e.0, take_twice k l e.1)

  drop_twice : (k : ℕ) (l : List ℕ) → Each Q l → Each Q (drop (twice k) l)
  unfolding Each twice
  drop_twice zero l e = e
  drop_twice (suc k) [] e = tt
  drop_twice (suc k) (P ∷ []) e = tt
  drop_twice (suc k) (P ∷ N ∷ l) e = drop_twice k l e.1

  pub each_take : (k : ℕ) (l : List ℕ) → Each Q l → Each Q (take (2 * k) l)
  each_take k l e = subst (λ (m : ℕ). Each Q (take m l)) (twice_is k) (take_twice k l e)

  pub each_drop : (k : ℕ) (l : List ℕ) → Each Q l → Each Q (drop (2 * k) l)
  each_drop k l e = subst (λ (m : ℕ). Each Q (drop m l)) (twice_is k) (drop_twice k l e)

-- two tests that agree at each cube are passed alike
pub some_same : (t u : ℕ → ℕ → Bool) (l : List ℕ) → Each (λ P N. t P N ≡ u P N) l → some_cube t l ≡ some_cube u l
unfolding some_cube Each
some_same t u [] e = refl
some_same t u (P ∷ []) e = refl
some_same t u (P ∷ N ∷ l) e = ap₂ ◌||◌ e.0 (some_same t u l e.1)

-- some cube passes at some x, or at some x some cube passes
pub some_any : (m : ℕ) (t : ℕ → ℕ → ℕ → Bool) (l : List ℕ) → some_cube (λ P N. any m (t P N)) l ≡ any m (λ x. some_cube (λ P N. t P N x) l)
unfolding some_cube
some_any m t [] = sym (any_never m)
some_any m t (P ∷ []) = sym (any_never m)
some_any m t (P ∷ N ∷ l) = ap (λ (b : Bool). any m (t P N) || b) (some_any m t l) ∙ any_or (t P N) (λ x. some_cube (λ P N. t P N x) l) m

-- a part of the test that no cube decides stands outside
pub some_and : (a : Bool) (t : ℕ → ℕ → Bool) (l : List ℕ) → some_cube (λ P N. a && t P N) l ≡ a && some_cube t l
unfolding some_cube
some_and a t [] = sym (and-false a)
some_and a t (P ∷ []) = sym (and-false a)
some_and a t (P ∷ N ∷ l) = ap (λ (b : Bool). a && t P N || b) (some_and a t l) ∙ sym (and-or_distrib_left a (t P N) (some_cube t l))

-- a cube, read at h y, meets some cube of a list at some y exactly when it meets the list
pub cube_meets : (m : ℕ) (h : ℕ → ℕ) (P N : ℕ) (l : List ℕ)
    → some_cube (λ P' N'. any m (λ y. cube_holds P N (h y) && cube_holds P' N' y)) l ≡ any m (λ y. cube_holds P N (h y) && some_holds l y)
cube_meets m h P N l = some_any m (λ P' N' y. cube_holds P N (h y) && cube_holds P' N' y) l ∙ any_same _ _ m (λ y _. some_and (cube_holds P N (h y)) (λ P' N'. cube_holds P' N' y) l)

-- two lists of cubes meet at some y, the one read at h y: two of their cubes do exactly when the lists do
pub lists_meet : (m : ℕ) (h : ℕ → ℕ) (l l' : List ℕ)
    → some_cube (λ P N. some_cube (λ P' N'. any m (λ y. cube_holds P N (h y) && cube_holds P' N' y)) l') l ≡ any m (λ y. some_holds l (h y) && some_holds l' y)
lists_meet m h l l' = some_same _ _ l (each_all _ (λ P N. cube_meets m h P N l') l) ∙ some_any m (λ P N y. cube_holds P N (h y) && some_holds l' y) l ∙ any_same _ _ m outer
  where
    outer : (y : ℕ) → y < m → some_cube (λ P N. cube_holds P N (h y) && some_holds l' y) l ≡ some_holds l (h y) && some_holds l' y
    outer y _ =
        let there = some_holds l' y in
        some_same _ _ l (each_all _ (λ P N. and_comm (cube_holds P N (h y)) there) l) ∙ some_and there _ l ∙ and_comm there (some_holds l (h y))

-- a pattern is the cube that names every input as it has it
pub as_cubes : (x : ℕ) (l : List ℕ) → x < 2 ^ 8 → some_cube (cubes_share 8 x (2 ^ 8 - 1 - x)) l ≡ some_holds l x
as_cubes x l h = some_same _ _ l (each_all _ (λ P N. as_cube P N x h) l)

-- ---- patterns as numbers

number_lesser : (a b : Option ℕ) → number_of a ≤ 256 → number_of b ≤ 256 → number_of (lesser a b) ≡ min (number_of a) (number_of b)
unfolding number_of lesser
number_lesser None b h k = omega arith
number_lesser (Some x) None h k = omega arith
number_lesser (Some x) (Some y) h k = refl

-- a number below 256 is the pattern
pub number_is : (o : Option ℕ) (x : ℕ) → x ≡ number_of o → x < 256 → Some x ≡ o
unfolding number_of
number_is None x e h = absurd (omega (arith, e, h))
number_is (Some y) x e h = ap Some e

-- a pattern of eight inputs is below 256, and so its number tells it
module _ (p : ℕ → Bool) where
  eight_or_none : (Q : Option ℕ → Type 0) → Q None → ((x : ℕ) → x < 256 → Q (Some x)) → Q (smallest (2 ^ 8) p)
  eight_or_none Q none found = go (smallest (2 ^ 8) p) (smallest_means p (2 ^ 8))
    where
      go : (o : Option ℕ) → Means (2 ^ 8) p o → Q o
      go None m = none
      go (Some x) m = found x m.within

  number_le : number_of (smallest (2 ^ 8) p) ≤ 256
  unfolding number_of
  number_le = eight_or_none (λ o. number_of o ≤ 256) (omega arith) (λ x h. omega arith)

module _ (P N : ℕ) (l : List ℕ) where
  pub number_found : number_of (least_with 8 P N l) < 256 → least_with 8 P N l ≡ Some (number_of (least_with 8 P N l))
  unfolding least_with number_of
  number_found =
      eight_or_none (λ x. cube_holds P N x && some_holds l x) (λ o. number_of o < 256 → o ≡ Some (number_of o))
      (λ h. absurd (omega (arith, h)))
      (λ x h k. refl)

  pub number_none : 256 ≤ number_of (least_with 8 P N l) → least_with 8 P N l ≡ None
  unfolding least_with number_of
  number_none =
      eight_or_none (λ x. cube_holds P N x && some_holds l x) (λ o. 256 ≤ number_of o → o ≡ None)
      (λ h. refl)
      (λ x h k. absurd (omega (arith, h, k)))

-- ---- a list as pairs

-- a test of a cube, which is kept as a pair
abbrev pub of_pair : (ℕ → ℕ → Bool) → List ℕ → Bool
of_pair t c = t (get_or c 0 0) (get_or c 1 0)

-- some cube of a list passes, read off its pairs
pub some_pairs : (t : ℕ → ℕ → Bool) (l : List ℕ) → some_cube t l ≡ list_any (of_pair t) (in_pairs l)
unfolding some_cube in_pairs
some_pairs t [] = refl
some_pairs t (P ∷ []) = refl
some_pairs t (P ∷ N ∷ l) = ap (λ (b : Bool). t P N || b) (some_pairs t l)

-- something is found where some number passes
is_found : (p : ℕ → Bool) (n : ℕ) → is_some (smallest n p) ≡ any n p
is_found p n = go (smallest n p) refl
  where
    go : (o : Option ℕ) → smallest n p ≡ o → is_some o ≡ any n p
    go None e = sym (none_any p n e)
    go (Some x) e = sym (found_any p n x e)

-- so a pattern is shared where there is a least one
pub pairs_share : (P N : ℕ) (l : List ℕ)
    → list_any (of_pair (λ P' N'. is_some (least_shared 8 P N P' N'))) (in_pairs l) ≡ some_cube (cubes_share 8 P N) l
unfolding cubes_share least_shared
pairs_share P N l =
    sym (some_pairs _ l)
    ∙ some_same _ _ l (each_all _ (λ P' N'. is_found (λ x. cube_holds P N x && cube_holds P' N' x) (2 ^ 8)) l)

-- cutting a list into chunks of two gives its pairs
pub pairs_cut : (l : List ℕ) → first_chunks 2 (length l / 2) l ≡ in_pairs l
unfolding in_pairs
pairs_cut [] = refl
pairs_cut (P ∷ []) = refl
pairs_cut (P ∷ N ∷ l) =
    let more : length (P ∷ N ∷ l) / 2 ≡ suc (length l / 2) = omega arith in
    ap (λ (k : ℕ). first_chunks 2 k (P ∷ N ∷ l)) more ∙ ap (λ (r : List (List ℕ)). (P ∷ N ∷ []) ∷ r) (pairs_cut l)

-- ---- how many numbers of a range pass

count_range : (p : ℕ → Bool) (a n : ℕ) → count_by p (range_with_len a n) ≡ count n (λ k. p (a + k))
unfolding count
count_range p a zero = refl
count_range p a (suc n) =
    sum_by-cons (λ k. cond (p k) 1 0) a (range_with_len (a + 1) n)
    ∙ ap₂ (λ (t : Bool) (c : ℕ). cond t 1 0 + c) (ap p (omega arith))
    (count_range p (a + 1) n ∙ count_same _ _ n (λ k h. ap p (omega arith)))
    ∙ sym (count_low (λ k. p (a + k)) n)

-- the patterns below 2^n, as the code reads them, that are held
pub patterns_counted : (l : List ℕ) (n : ℕ) → n ≤ 8
    → length (filter (λ x. some_holds l (bit_and x 255)) (range_with_len 0 (2 ^ n))) ≡ patterns_held n l
unfolding patterns_held
patterns_counted l n h =
    length-filter _ (range_with_len 0 (2 ^ n)) ∙ count_range _ 0 (2 ^ n)
    ∙ count_same (λ k. some_holds l (bit_and (0 + k) 255)) _ (2 ^ n)
    (λ k b. ap (some_holds l) (low (0 + k) k (omega arith) (omega (arith, b, pow_mono h))))
  where
    low : (j k : ℕ) → j ≡ k → k < 256 → bit_and j 255 ≡ k
    low j k e h = grind (arith, common_steps)

-- ---- the smallest pattern that a cube shares with any of these pairs

unfoldable pub least_of : ℕ → ℕ → List (List ℕ) → Option ℕ
least_of P N pairs = smallest (2 ^ 8) (λ x. cube_holds P N x && list_any (of_pair (λ P N. cube_holds P N x)) pairs)

module _ (P N : ℕ) where
  pub least_pairs : (l : List ℕ) → least_with 8 P N l ≡ least_of P N (in_pairs l)
  unfolding least_with least_of
  least_pairs l =
      smallest_same _ _ (2 ^ 8) (λ x _. ap (λ (t : Bool). cube_holds P N x && t) (some_pairs (λ P N. cube_holds P N x) l))

  pub least_nothing : least_of P N [] ≡ None
  unfolding least_of
  least_nothing = smallest_none _ (2 ^ 8) (any_same _ _ (2 ^ 8) (λ x _. and-false (cube_holds P N x)) ∙ any_never (2 ^ 8))

  pub number_nothing : number_of (least_of P N []) ≡ 256
  unfolding number_of
  number_nothing = ap number_of least_nothing

  module _ (s : List (List ℕ)) (i : ℕ) (d : List ℕ) (h : i < length s) where
    -- one pair more
    least_more : least_of P N (take (i + 1) s)
        ≡ lesser (least_of P N (take i s)) (least_shared 8 P N (get_or (get_or s i d) 0 0) (get_or (get_or s i d) 1 0))
    unfolding least_of least_shared
    least_more =
        let c = get_or s i d in
        let holds = λ (x : ℕ). of_pair (λ P N. cube_holds P N x) in
        smallest_same _ _ (2 ^ 8)
        (λ x _.
        ap (λ (t : Bool). cube_holds P N x && t) (list_any_more (holds x) s i d h)
        ∙ and-or_distrib_left (cube_holds P N x) (list_any (holds x) (take i s)) (holds x c))
        ∙ smallest_or (λ x. cube_holds P N x && list_any (holds x) (take i s)) (λ x. cube_holds P N x && holds x c) (2 ^ 8)

    -- where neither those before nor the pair share a pattern, none does
    pub open_more : least_of P N (take i s) ≡ None
        → least_shared 8 P N (get_or (get_or s i d) 0 0) (get_or (get_or s i d) 1 0) ≡ None
        → least_of P N (take (i + 1) s) ≡ None
    unfolding lesser
    open_more none here = least_more ∙ ap₂ lesser none here

    pub number_more : number_of (least_of P N (take (i + 1) s))
        ≡ min (number_of (least_of P N (take i s)))
        (number_of (least_shared 8 P N (get_or (get_or s i d) 0 0) (get_or (get_or s i d) 1 0)))
    unfolding least_of least_shared
    number_more = ap number_of least_more ∙ number_lesser _ _ (number_le _) (number_le _)

-- what a walk over the pairs starts with, and what it has at its end
pub ruleset walks = (common_steps, least_nothing, number_nothing, least_pairs)
