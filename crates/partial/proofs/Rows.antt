-- The first dead pair, row by row: one cube of f against a list of g, then a list of f against a list of g, then both lists
-- of f. Each is the first number that gives something (`first_some`), and the code asks the pairs of a list in turn
-- (`first_pair`), so one law serves both walks.
use Prim.Native.Nat.{ℕ, suc, ◌+◌, ◌*◌, ◌≤◌, ◌<◌}
use mathlib.Core.Path.{◌≡◌, refl, sym, ap, ap₂, ◌∙◌, subst, fun_ext}
use mathlib.Core.Bool.{Bool, true, false, cond}
use mathlib.Core.List.{List, [], ◌∷◌}
use native.Mathlib.Omega.{arith}
use native.Mathlib.Numerals.{add-one}
use lib.ListN.{length, get_or, drop, drop_of_length-le}
use lib.Seq.{drop-cons}
use Rattle.std.specs.Prelude.{is_some}
use Rattle.std.specs.declared.option.Option.{Option}
use Rattle.std.specs.declared.option.Option.TheVariants.{None, Some}
use Rattle.cubes.specs.Values.{in_pairs}
use Rattle.rules.specs.Lists.{run, upto, first}
use Rattle.rules.specs.Rules.{follows}
use Rattle.rules.proofs.Lists.{map_in, first_some, first_same, first_flat, ◌else◌}
use Rattle.rules.proofs.Seek.{first_given, else_nothing}
use Rattle.wirings.specs.Wirings.{straight}
use Rattle.wirings.specs.Pairs.{dead, cubes_in, at_cube, side, against, Pair, cube_pairs, pairs, pair_test, of_pair, first_dead}
use Rattle.wirings.proofs.Indexed.{of_side, side_test}
use Rattle.partial.specs.declared.Masks.{Masks}
use Rattle.partial.specs.declared.Carried.{Carried}
use Rattle.partial.specs.declared.Pair.{Pair as PairFound}
use Rattle.partial.specs.Partial.{carried, clears, found, row, rows, prefix, Formed}
use Rattle.partial.proofs.Carrying.{clears_dead}

-- ---- what is found: a pair where there is one, and else none

pub found_some : (o : Option Pair) (p : PairFound) → Some p ≡ found o → (x : Pair) × (o ≡ Some x) × (p ≡ record { s = x.0; u = x.1; v = x.2 })
unfolding found
found_some None p e = cc
found_some (Some x) p e = (x, refl, cc)

pub found_none : (o : Option Pair) → None ≡ found o → o ≡ None
unfolding found
found_none None e = refl
found_none (Some x) e = cc

pub found_is_some : (o : Option Pair) → is_some (found o) ≡ is_some o
unfolding found
found_is_some None = refl
found_is_some (Some x) = refl

found_else : (a b : Option Pair) → found (a else b) ≡ (found a else found b)
unfolding found ◌else◌
found_else None b = refl
found_else (Some x) b = refl

-- ---- the numbers of a list's cubes, as its pairs

module _ {B : Type 0} where
  -- the first of these pairs, numbered from u, that gives something
  unfoldable pub first_pair : (ℕ → ℕ → ℕ → Option B) → ℕ → List (List ℕ) → Option B
  first_pair h u [] = None
  first_pair h u (c ∷ ps) = h u (get_or c 0 0) (get_or c 1 0) else first_pair h (u + 1) ps

  by_pairs : (h : ℕ → ℕ → ℕ → Option B) (l : List ℕ) (at : ℕ → Option B) (u : ℕ) → ((k : ℕ) → at (u + k) ≡ at_cube (h (u + k)) l k)
      → first_some at (run u (cubes_in l)) ≡ first_pair h u (in_pairs l)
  unfolding first_some run in_pairs first_pair
  by_pairs h [] at u same = refl
  by_pairs h (P ∷ []) at u same = refl
  by_pairs h (P ∷ N ∷ l) at u same =
      let more : cubes_in (P ∷ N ∷ l) ≡ suc (cubes_in l) = omega arith in
      let first : u + 0 ≡ u = omega arith in
      ap (λ (n : ℕ). first_some at (run u n)) more
      ∙ ap₂ (λ (a b : Option B). a else b) (subst (λ (k : ℕ). at k ≡ h k P N) first (same 0))
      (ap (λ (k : ℕ). first_some at (run k (cubes_in l))) (omega arith)
      ∙ by_pairs h l at (u + 1)
      (λ k.
      let later : u + suc k ≡ u + 1 + k = omega arith in
      let pos : 2 * suc k ≡ suc (suc (2 * k)) = omega arith in
      let neg : 2 * suc k + 1 ≡ suc (suc (2 * k + 1)) = omega arith in
      subst (λ (m : ℕ). at m ≡ at_cube (h m) (P ∷ N ∷ l) (suc k)) later (same (suc k))
      ∙ ap₂ (λ (i j : ℕ). h (u + 1 + k) (get_or (P ∷ N ∷ l) i 0) (get_or (P ∷ N ∷ l) j 0)) pos neg))

  -- a walk from one pair to the next
  walk_step : (h : ℕ → ℕ → ℕ → Option B) (ps : List (List ℕ)) (u : ℕ) (d : List ℕ) → u < length ps
      → first_pair h u (drop u ps) ≡ (h u (get_or (get_or ps u d) 0 0) (get_or (get_or ps u d) 1 0) else first_pair h (u + 1) (drop (u + 1) ps))
  unfolding first_pair
  walk_step h ps u d l =
      ap (first_pair h u) (drop-cons ps u d l)
      ∙ ap (λ (k : ℕ). h u (get_or (get_or ps u d) 0 0) (get_or (get_or ps u d) 1 0) else first_pair h (u + 1) (drop k ps)) (sym (add-one u))

-- ---- one carried cube against a list

module _ (c : Carried) (s u : ℕ) where
  -- what cube v gives, and what the cubes from there on do
  abbrev pub row_at : ℕ → ℕ → ℕ → Option Pair
  row_at v P N = cond (clears c P N) (Some (s, u, v)) None

  unfoldable pub row_from : ℕ → List (List ℕ) → Option PairFound
  row_from v ps = found (first_pair row_at v ps)

  pub row_starts : (list : List ℕ) → found (row c list s u) ≡ row_from 0 (in_pairs list)
  unfolding row row_from
  row_starts list =
      ap found
      (first_given (λ p. at_cube (clears c) list p.2) (λ v. (s, u, v)) (upto (cubes_in list))
      ∙ by_pairs row_at list (λ v. at_cube (row_at v) list v) 0 (λ k. let same : 0 + k ≡ k = omega arith in ap (λ (v : ℕ). at_cube (row_at (0 + k)) list v) same))

  pub row_ends : (ps : List (List ℕ)) (v : ℕ) → length ps ≤ v → row_from v (drop v ps) ≡ None
  unfolding row_from first_pair found
  row_ends ps v h = ap (row_from v) (drop_of_length-le ps h)

  module _ (ps : List (List ℕ)) (v : ℕ) (d : List ℕ) (h : v < length ps) where
    abbrev passes : Bool
    passes = clears c (get_or (get_or ps v d) 0 0) (get_or (get_or ps v d) 1 0)

    row_step : row_from v (drop v ps) ≡ (found (cond passes (Some (s, u, v)) None) else row_from (v + 1) (drop (v + 1) ps))
    unfolding row_from
    row_step = ap found (walk_step row_at ps v d h) ∙ found_else _ _

    pub row_found : passes ≡ true → row_from v (drop v ps) ≡ Some (record { s = s; u = u; v = v })
    unfolding row_from ◌else◌ found
    row_found e = row_step ∙ ap (λ (b : Bool). found (cond b (Some (s, u, v)) None) else row_from (v + 1) (drop (v + 1) ps)) e

    pub row_goes : passes ≡ false → row_from v (drop v ps) ≡ row_from (v + 1) (drop (v + 1) ps)
    unfolding row_from ◌else◌ found
    row_goes e = row_step ∙ ap (λ (b : Bool). found (cond b (Some (s, u, v)) None) else row_from (v + 1) (drop (v + 1) ps)) e

-- the walk at its start, from cube to cube and at its end
pub ruleset row_walk = (row_starts, row_found, row_goes, row_ends)

-- ---- a list of f against a list of g

module _ (n : ℕ) (w : List ℕ) (other : List ℕ) (s : ℕ) where
  -- what cube u gives, and what the pairs from there on do
  abbrev pub rows_at : ℕ → ℕ → ℕ → Option Pair
  rows_at u P N = row (carried n w P N) other s u

  unfoldable pub rows_from : ℕ → List (List ℕ) → Option PairFound
  rows_from u ps = found (first_pair rows_at u ps)

  rows_given : n ≤ 8 → follows (straight n) [] w ≡ true → (list : List ℕ) → found (rows n w list other s) ≡ rows_from 0 (in_pairs list)
  unfolding rows row rows_from
  rows_given few allowed list =
      ap found
      (first_flat (pair_test (dead n w) list other) (cube_pairs other s) (upto (cubes_in list))
      ∙ ap (λ (h : ℕ → Option Pair). first_some h (upto (cubes_in list))) (fun_ext same_row)
      ∙ by_pairs rows_at list (λ u. at_cube (rows_at u) list u) 0 (λ k. let same : 0 + k ≡ k = omega arith in ap (λ (u : ℕ). at_cube (rows_at (0 + k)) list u) same))
    where
      same_row : (u : ℕ) → first (pair_test (dead n w) list other) (cube_pairs other s u) ≡ at_cube (rows_at u) list u
      same_row u =
          first_same _ _ (cube_pairs other s u)
          (λ p i.
          let x = map_in (λ v. (s, u, v)) p (upto (cubes_in other)) i in
          ap (λ (k : ℕ). at_cube (at_cube (dead n w) list k) other p.2) (ap (λ (p : Pair). p.1) x.2)
          ∙ sym (clears_dead n few w allowed (get_or list (2 * u) 0) (get_or list (2 * u + 1) 0) (get_or other (2 * p.2) 0) (get_or other (2 * p.2 + 1) 0)))

  pub rows_end : (ps : List (List ℕ)) (u : ℕ) → length ps ≤ u → rows_from u (drop u ps) ≡ None
  unfolding rows_from first_pair found
  rows_end ps u h = ap (rows_from u) (drop_of_length-le ps h)

  module _ (ps : List (List ℕ)) (u : ℕ) (d : List ℕ) (h : u < length ps) where
    abbrev here : Option PairFound
    here = found (row (carried n w (get_or (get_or ps u d) 0 0) (get_or (get_or ps u d) 1 0)) other s u)

    step : rows_from u (drop u ps) ≡ (here else rows_from (u + 1) (drop (u + 1) ps))
    unfolding rows_from
    step = ap found (walk_step rows_at ps u d h) ∙ found_else _ _

    pub rows_found : (p : PairFound) → here ≡ Some p → rows_from u (drop u ps) ≡ Some p
    unfolding rows_from ◌else◌
    rows_found p e = step ∙ ap (λ (o : Option PairFound). o else rows_from (u + 1) (drop (u + 1) ps)) e

    pub rows_goes : here ≡ None → rows_from u (drop u ps) ≡ rows_from (u + 1) (drop (u + 1) ps)
    unfolding rows_from ◌else◌
    rows_goes e = step ∙ ap (λ (o : Option PairFound). o else rows_from (u + 1) (drop (u + 1) ps)) e

-- as the code meets it
pub rows_starts : (r : Masks) (list other : List ℕ) (s : ℕ) → Formed r → found (rows r.n (prefix r) list other s) ≡ rows_from r.n (prefix r) other s 0 (in_pairs list)
rows_starts r list other s k = rows_given r.n (prefix r) other s k.few k.allowed list

-- the walk at its start, from cube to cube and at its end
pub ruleset walk = (rows_starts, rows_found, rows_goes, rows_end)

-- ---- both lists of f

module _ (n q : ℕ) (f g w : List ℕ) where
  abbrev on : Option Pair
  on = rows n w (side 0 f) (side (against q 0) g) 0

  abbrev off : Option Pair
  off = rows n w (side 1 f) (side (against q 1) g) 1

  -- each list against its own
  pub first_dead_rows : first_dead n q f g w ≡ (on else off)
  unfolding first_dead pairs rows first_some
  first_dead_rows =
      first_flat (of_pair q f g (dead n w)) (of_side q f g) (0 ∷ 1 ∷ [])
      ∙ ap₂ (λ (a b : Option Pair). a else b) (same_list 0) (else_nothing (first (of_pair q f g (dead n w)) (of_side q f g 1)) ∙ same_list 1)
    where
      same_list : (s : ℕ) → first (of_pair q f g (dead n w)) (of_side q f g s) ≡ rows n w (side s f) (side (against q s) g) s
      same_list s = first_same _ _ (of_side q f g s) (side_test q f g (dead n w) s)

  pub first_dead_on : (p : PairFound) → found on ≡ Some p → found (first_dead n q f g w) ≡ Some p
  unfolding ◌else◌
  first_dead_on p e = ap found first_dead_rows ∙ found_else on off ∙ ap (λ (o : Option PairFound). o else found off) e

  pub first_dead_off : found on ≡ None → found (first_dead n q f g w) ≡ found off
  unfolding ◌else◌
  first_dead_off e = ap found first_dead_rows ∙ found_else on off ∙ ap (λ (o : Option PairFound). o else found off) e
