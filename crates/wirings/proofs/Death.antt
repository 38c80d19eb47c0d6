-- The test of death for accepted records. The idea: a wiring agrees exactly when it separates every pair, so from choices with a
-- dead pair, which no completion separates, nothing agrees; and a whole wiring that does not agree has a pair that it does not
-- separate, which is dead.
use Prim.Native.Nat.{ℕ, ◌*◌, ◌≤◌, ◌<◌}
use mathlib.Core.Path.{◌≡◌, sym, ◌∙◌, subst}
use mathlib.Core.Bool.{Bool, true, false, cond, not, false≢true}
use mathlib.Core.List.{List, [], ◌∷◌}
use Rattle.std.specs.declared.option.Option.TheVariants.{None, Some}
use native.Mathlib.Nat.{le_trans}
use native.Mathlib.Omega.{arith}
use borrow.Author.Tests.{not-true, not-false}
use lib.Dec.{eqb}
use lib.ListN.{drop, length-take}
use Rattle.bits.proofs.Tests.{not_passed}
use Rattle.rules.specs.Lists.{run, upto, some_in, each_in}
use Rattle.rules.specs.Rules.{completions}
use Rattle.rules.proofs.Lists.{In, in_map, map_in, in_flat, flat_in, some_at, some_if, some_same, each_at, each_some, first_exists, first_found, in_run, run_in, AfterNone, first_after}
use Rattle.rules.proofs.Cut.{Reached, Death, whole_reached}
use Rattle.records.specs.Records.{inputs, on_count, off_count, cubes_at, off_at, on_list, off_list, Accepted}
use Rattle.records.proofs.Frame.{Framed, few_inputs}
use Rattle.wirings.specs.Wirings.{straight, is_wiring, wirings, phase, choices, agrees, agreeing}
use Rattle.wirings.specs.Pairs.{separates, dead, cubes_in, side, against, Pair, cube_pairs, pairs, of_pair, first_dead}
use Rattle.wirings.proofs.Wirings.{wiring_parts, in_wiring}
use Rattle.wirings.proofs.Dead.{dead_exactly, dead_whole}
use Rattle.wirings.proofs.Indexed.{of_side}
use Rattle.wirings.proofs.Agreement.{agrees_separates}

-- ---- the pairs: s, u, v is one exactly when s is 0 or 1, f's list s has a cube u, and the list of g against it a cube v

module _ (q : ℕ) (f g : List ℕ) where
  abbrev pub IsPair : ℕ → ℕ → ℕ → Type 0
  IsPair s u v = (s ≤ 1) × (u < cubes_in (side s f)) × (v < cubes_in (side (against q s) g))

  pub in_pair : (s u v : ℕ) → IsPair s u v → In (s, u, v) (pairs q f g)
  unfolding pairs run
  in_pair s u v h =
      let k = cubes_in (side s f) in
      let m = cubes_in (side (against q s) g) in
      in_flat (of_side q f g) s (s, u, v) (upto 2) (run_in s 0 2 (omega arith) (omega (arith, h.0)))
      (in_flat (cube_pairs (side (against q s) g) s) u (s, u, v) (upto k) (run_in u 0 k (omega arith) (omega (arith, h.1)))
      (in_map (λ v. (s, u, v)) v (upto m) (run_in v 0 m (omega arith) (omega (arith, h.2)))))

  pub pair_in : (s u v : ℕ) → In (s, u, v) (pairs q f g) → IsPair s u v
  unfolding pairs run
  pair_in s u v i =
      let x = flat_in (of_side q f g) (s, u, v) (upto 2) i in
      let k = cubes_in (side x.0 f) in
      let m = cubes_in (side (against q x.0) g) in
      let y = flat_in (cube_pairs (side (against q x.0) g) x.0) (s, u, v) (upto k) x.2 in
      let z = map_in (λ v. (x.0, y.0, v)) (s, u, v) (upto m) y.2 in
      subst (λ (p : Pair). IsPair p.0 p.1 p.2) (sym z.2)
      (omega (arith, (in_run x.0 0 2 x.1).1), omega (arith, (in_run y.0 0 k y.1).1), omega (arith, (in_run z.0 0 m z.1).1))

-- of accepted records there are at most 64 of each
few_cubes : (s : ℕ) (f : List ℕ) → Framed f → cubes_in (side s f) ≤ 64
unfolding side on_list off_list
few_cubes s f h =
    let a = h.header.a_byte.most in
    let b = h.header.b_byte.most in
    let on = length-take (2 * on_count f) (drop (cubes_at f) f) in
    let off = length-take (2 * off_count f) (drop (off_at f) f) in
    elim (eqb s 0) as (λ t. cubes_in (cond t (on_list f) (off_list f)) ≤ 64) [ true ↦ omega (arith, on, a) | false ↦ omega (arith, off, b) ]

pub few_pairs : (q : ℕ) (f g : List ℕ) → Framed f → Framed g → (p : Pair) → In p (pairs q f g) → (p.0 ≤ 1) × (p.1 < 64) × (p.2 < 64)
few_pairs q f g framed_f framed_g p i =
    let x = pair_in q f g p.0 p.1 p.2 i in
    (x.0, le_trans x.1 (few_cubes p.0 f framed_f), le_trans x.2 (few_cubes (against q p.0) g framed_g))

-- ---- dead pairs

-- some pair is dead
unfoldable pub some_dead : ℕ → ℕ → List ℕ → List ℕ → List ℕ → Bool
some_dead n q f g w = some_in (of_pair q f g (dead n w)) (pairs q f g)

module _ (n q : ℕ) (f g w : List ℕ) where
  -- where some pair is dead, a first one is found
  pub first_exists_dead : some_dead n q f g w ≡ true → (p : Pair) × (first_dead n q f g w ≡ Some p)
  unfolding some_dead first_dead
  first_exists_dead e = first_exists (of_pair q f g (dead n w)) (pairs q f g) e

  -- what is found is a dead pair
  pub first_dead_is : (p : Pair) → first_dead n q f g w ≡ Some p → In p (pairs q f g) × (of_pair q f g (dead n w) p ≡ true)
  unfolding first_dead
  first_dead_is p e = first_found (of_pair q f g (dead n w)) p (pairs q f g) e

  pub found_dead : (p : Pair) → first_dead n q f g w ≡ Some p → some_dead n q f g w ≡ true
  unfolding some_dead
  found_dead p e = let x = first_dead_is p e in some_if (of_pair q f g (dead n w)) p (pairs q f g) x.0 x.1

  -- no pair before it is dead: the pairs are some that are not, then it, then others
  pub first_dead_after : (p : Pair) → first_dead n q f g w ≡ Some p → AfterNone (of_pair q f g (dead n w)) p (pairs q f g)
  unfolding first_dead
  first_dead_after p e = first_after (of_pair q f g (dead n w)) p (pairs q f g) e

  -- and where none is found, none is dead
  pub first_dead_none : first_dead n q f g w ≡ None → some_dead n q f g w ≡ false
  unfolding some_dead
  first_dead_none e = not_passed (some_dead n q f g w) (λ d. let p = first_exists_dead d in let s : Some p.0 ≡ None = sym p.1 ∙ e in cc)

-- ---- whole wirings

-- each wiring of the list has all its choices
pub wiring_reached : (n : ℕ) (v : List ℕ) → In v (wirings n) → Reached (straight n) n 0 (choices v)
unfolding is_wiring
wiring_reached n v i = go v (in_wiring n v i)
  where
    go : (v : List ℕ) → is_wiring n v ≡ true → Reached (straight n) n 0 (choices v)
    go [] e = absurd (false≢true e)
    go (q ∷ w) e = let x = wiring_parts n q w e in record { total = omega arith; allowed = x.2 }

-- ---- death, for accepted records

module _ (q : ℕ) (f g : List ℕ) (ok : Accepted f g) where
  -- a whole wiring agrees exactly when it separates every pair
  as_separates : (w : List ℕ) → Reached (straight (inputs g)) (inputs g) 0 w → agrees q f g w ≡ each_in (of_pair q f g (separates w)) (pairs q f g)
  as_separates w r = agrees_separates q f g ok w r.allowed (omega (arith, r.total))

  -- of choices with a dead pair no completion agrees
  pub never_agrees : (k : ℕ) (w : List ℕ) → Reached (straight (inputs g)) (inputs g) k w → some_dead (inputs g) q f g w ≡ true
      → (v : List ℕ) → In v (completions (straight (inputs g)) k w) → agrees q f g v ≡ false
  unfolding some_dead
  never_agrees k w r d v i =
      let n = inputs g in
      let x = some_at (of_pair q f g (dead n w)) (pairs q f g) d in
      let p = x.0 in
      let whole = whole_reached (straight n) n k w r v i in
      let gone : of_pair q f g (dead n w) p ≡ not (some_in (λ v. of_pair q f g (separates v) p) (completions (straight n) k w)) =
      dead_exactly n (omega (arith, few_inputs f g ok)) k w r.allowed r.total _ _ _ _
      in
      not_passed (agrees q f g v) (λ e.
      let parted = each_at (of_pair q f g (separates v)) p (pairs q f g) (sym (as_separates v whole) ∙ e) x.1 in
      false≢true (sym (not-true _ (sym gone ∙ x.2)) ∙ some_if (λ v. of_pair q f g (separates v) p) v (completions (straight n) k w) i parted))

  -- a whole wiring that does not agree has a dead pair
  pub whole_dead : (w : List ℕ) → Reached (straight (inputs g)) (inputs g) 0 w → agrees q f g w ≡ false → some_dead (inputs g) q f g w ≡ true
  unfolding some_dead
  whole_dead w r e =
      some_same (of_pair q f g (dead (inputs g) w)) (λ p. not (of_pair q f g (separates w) p)) (pairs q f g) (λ p _. dead_whole (inputs g) w (omega (arith, r.total)) _ _ _ _)
      ∙ not-false _ (sym (each_some (of_pair q f g (separates w)) (pairs q f g)) ∙ sym (as_separates w r) ∙ e)

  -- so a walk that drops choices with a dead pair finds exactly the wirings that agree
  pub death : Death (straight (inputs g)) (inputs g) (agrees q f g) (some_dead (inputs g) q f g)
  death = record { dies = never_agrees; shows = whole_dead }

-- a wiring of the list agrees exactly when it separates every pair
pub agreeing_separates : (f g : List ℕ) → Accepted f g → (v : List ℕ) → In v (wirings (inputs g)) → agreeing f g v ≡ each_in (of_pair (phase v) f g (separates (choices v))) (pairs (phase v) f g)
agreeing_separates f g ok v i = as_separates (phase v) f g ok (choices v) (wiring_reached (inputs g) v i)
