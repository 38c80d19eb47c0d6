-- What the claims of document 01 say: a refusal shows that no wiring agrees, so that a match and a refusal never stand together; and
-- how long a claim can be.
use Prim.Native.Nat.{ℕ, zero, suc, ◌+◌, ◌≤◌, ◌<◌}
use mathlib.Core.Path.{◌≡◌, refl, sym, ap, ◌∙◌}
use mathlib.Core.Bool.{true, false, ◌&&◌, false≢true}
use mathlib.Core.List.{List, [], ◌∷◌, map}
use native.Mathlib.Nat.{le_of_eq, le_of_suc-le-suc, le_trans}
use native.Mathlib.Omega.{arith}
use borrow.Author.Tests.{ltb-true, lt-ltb}
use lib.Dec.{ltb}
use lib.ListN.{length, length-append}
use Rattle.bits.proofs.Tests.{both, both_left, both_right}
use Rattle.rules.specs.Rules.{completions}
use Rattle.rules.proofs.Lists.{In, some_if}
use Rattle.rules.proofs.Cut.{reached_start}
use Rattle.records.specs.Records.{inputs, Accepted}
use Rattle.wirings.specs.Wirings.{straight, is_wiring, agrees, agreeing}
use Rattle.wirings.specs.Pairs.{Pair, cubes_in, side, pairs, of_pair, dead}
use Rattle.wirings.proofs.Choices.{free_number}
use Rattle.wirings.proofs.Wirings.{wiring_parts, whole_in}
use Rattle.records.proofs.Frame.{few_inputs}
use Rattle.wirings.proofs.Death.{in_pair, pair_in, some_dead, never_agrees}
use Rattle.claims.specs.Trees.{Tree, tree_bytes, longest_tree}
use Rattle.claims.specs.Claims.{IsMatch, IsRefusal, match_claim, names_pair, closes, right_for, longest_refusal}
use Rattle.claims.proofs.Trees.{TwoEach, Kills, right_none, tree_length, longest_grows}

-- with k inputs still to be placed there are two choices for each
pub two_each : (n : ℕ) → n ≤ 16 → TwoEach (straight n) n
two_each n small k w r = le_of_eq (free_number n small w r.allowed (suc k) r.total)

-- ---- closings

module _ (q : ℕ) (f g : List ℕ) where
  -- a closing names a pair to be kept apart, and every such pair can be named
  pub names_in : (p : Pair) → names_pair q f g p ≡ true → In p (pairs q f g)
  unfolding names_pair
  names_in p e =
      let first = both_left (ltb p.0 2 && ltb p.1 (cubes_in (side p.0 f))) _ e in
      in_pair q f g p.0 p.1 p.2 (
        le_of_suc-le-suc (ltb-true p.0 2 (both_left (ltb p.0 2) _ first)),
        ltb-true p.1 _ (both_right (ltb p.0 2) _ first),
        ltb-true p.2 _ (both_right (ltb p.0 2 && ltb p.1 (cubes_in (side p.0 f))) _ e),
      )

  pub in_names : (p : Pair) → In p (pairs q f g) → names_pair q f g p ≡ true
  unfolding names_pair
  in_names p i =
      let h = pair_in q f g p.0 p.1 p.2 i in
      both (both (lt-ltb p.0 2 (omega (arith, h.0))) (lt-ltb p.1 _ h.1)) (lt-ltb p.2 _ h.2)

  -- from a closing nothing agrees: its pair is dead
  pub closes_dies : Accepted f g → Kills (straight (inputs g)) (inputs g) (agrees q f g) (closes q f g)
  unfolding some_dead
  closes_dies ok k w p r e =
      let gone = of_pair q f g (dead (inputs g) w) in
      never_agrees q f g ok k w r
      (some_if gone p (pairs q f g) (names_in p (both_left (names_pair q f g p) (gone p) e)) (both_right (names_pair q f g p) (gone p) e))

-- ---- refusals

module _ (f g : List ℕ) (ok : Accepted f g) where
  -- where a tree for q is right, no wiring of that phase agrees
  tree_none : (q : ℕ) (t : Tree) → right_for q f g t ≡ true → (w : List ℕ) → In w (completions (straight (inputs g)) (inputs g) []) → agrees q f g w ≡ false
  tree_none q t = let n = inputs g in right_none (straight n) n (agrees q f g) (closes q f g) (closes_dies q f g ok) n [] t (reached_start (straight n) n)

  -- a refusal shows that no wiring agrees
  pub refusal_none : (c : List ℕ) → IsRefusal f g c → (v : List ℕ) → is_wiring (inputs g) v ≡ true → agreeing f g v ≡ false
  unfolding is_wiring
  refusal_none c h [] e = absurd (false≢true e)
  refusal_none c h (q ∷ w) e = phase q (wiring_parts (inputs g) q w e).0 (whole_in (inputs g) q w e)
    where
      phase : (q : ℕ) → q < 2 → In w (completions (straight (inputs g)) (inputs g) []) → agrees q f g w ≡ false
      phase zero l = tree_none 0 h.tree₀ h.right₀ w
      phase (suc zero) l = tree_none 1 h.tree₁ h.right₁ w
      phase (suc (suc q)) l = absurd (omega (arith, l))

  -- so there is never a match and a refusal
  pub not_both : (c c' : List ℕ) → IsMatch f g c → IsRefusal f g c' → ⊥
  not_both c c' m h = false≢true (sym (refusal_none c' h m.wiring m.whole) ∙ m.agrees)

-- ---- how long a claim is

pub match_length : (f g c : List ℕ) → IsMatch f g c → length c ≡ 4 + inputs g
unfolding is_wiring
match_length f g c m = ap length m.bytes ∙ go m.wiring m.whole
  where
    go : (v : List ℕ) → is_wiring (inputs g) v ≡ true → length (match_claim (inputs g) v) ≡ 4 + inputs g
    go [] e = absurd (false≢true e)
    go (q ∷ w) e = omega (arith, (wiring_parts (inputs g) q w e).1)

-- both trees of a refusal are no longer than the longest
pub refusal_length : (f g c : List ℕ) → inputs g ≤ 8 → IsRefusal f g c → length c ≤ longest_refusal (inputs g)
refusal_length f g c few h =
    let n = inputs g in
    let short : (q : ℕ) (t : Tree) → right_for q f g t ≡ true → length (tree_bytes t) ≤ longest_tree n = λ q t. tree_length (straight n) n (two_each n (omega arith)) (closes q f g) n [] t (reached_start (straight n) n) in
    omega (arith, ap length h.bytes, length-append (tree_bytes h.tree₀) (tree_bytes h.tree₁), short 0 h.tree₀ h.right₀, short 1 h.tree₁ h.right₁)

-- and there are at most 8 inputs
pub longest_most : (n : ℕ) → n ≤ 8 → longest_refusal n ≤ 75323621
unfolding longest_tree
longest_most n few = omega (arith, longest_grows n 8 few)

pub refusal_most : (f g : List ℕ) → Accepted f g → (c : List ℕ) → IsRefusal f g c → length c ≤ 75323621
refusal_most f g ok c h = let few = few_inputs f g ok in le_trans (refusal_length f g c few h) (longest_most (inputs g) few)

-- for 1 to 8 inputs
pub the_lengths : map longest_refusal (1 ∷ 2 ∷ 3 ∷ 4 ∷ 5 ∷ 6 ∷ 7 ∷ 8 ∷ []) ≡ 17 ∷ 61 ∷ 353 ∷ 2805 ∷ 28025 ∷ 336269 ∷ 4707729 ∷ 75323621 ∷ []
unfolding longest_tree
the_lengths = refl
