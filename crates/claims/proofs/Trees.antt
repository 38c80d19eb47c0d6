-- What a right tree says, over any choice rule: where every closing kills, nothing passes; and where at most two choices follow
-- for each input that is left, no tree is longer than the longest.
use Prim.Native.Nat.{ℕ, zero, suc, ◌*◌, ◌≤◌}
use mathlib.Core.Path.{◌≡◌, refl, ap, ◌∙◌}
use mathlib.Core.Bool.{Bool, true, false, false≢true}
use mathlib.Core.List.{List, [], ◌∷◌}
use mathlib.Core.Logic.{inl, inr, ⊎_elim}
use native.Mathlib.Nat.{le_of_eq, suc-mul, mul-le-mul_right, eq-or-lt_of_le, le_of_suc-le-suc}
use native.Mathlib.Omega.{arith}
use lib.ListN.{length, length-append}
use Rattle.bits.proofs.Tests.{both, both_left, both_right}
use Rattle.rules.specs.Rules.{Rule, ◌adding◌, next, completions}
use Rattle.rules.proofs.Lists.{In, flat_in}
use Rattle.rules.proofs.Cut.{Reached, reached_next}
use Rattle.wirings.specs.Pairs.{Pair}
use Rattle.claims.specs.Trees.{Tree, Trees, closing, split, end, ◌and◌, tree_bytes, trees_bytes, right_each, tree_each, right, longest_tree}

-- ---- the longest tree

pub longest_grows : (m n : ℕ) → m ≤ n → longest_tree m ≤ longest_tree n
unfolding longest_tree
longest_grows m zero h = let none : m ≡ zero = omega arith in le_of_eq (ap longest_tree none)
longest_grows m (suc n) h =
    let some : 1 ≤ 2 * suc n = omega arith in
    ⊎_elim (λ e. le_of_eq (ap longest_tree e)) (λ l. omega (arith, longest_grows m n (le_of_suc-le-suc l), mul-le-mul_right (longest_tree n) some)) (eq-or-lt_of_le h)

-- with k inputs still to be placed, at most two choices for each of them may follow
abbrev pub TwoEach : Rule → ℕ → Type 0
TwoEach R n = (k : ℕ) (w : List ℕ) → Reached R n (suc k) w → length (next R w) ≤ 2 * suc k

-- ---- the trees of a split

module _ (right_of : ℕ → Tree → Bool) where
  -- each choice has one that is right for it
  tree_of : (l : List ℕ) (ts : Trees) → right_each right_of l ts ≡ true → (b : ℕ) → In b l → (t : Tree) × (right_of b t ≡ true)
  unfolding right_each In
  tree_of [] ts e b i = elim i [ ]
  tree_of (a ∷ l) end e b i = absurd (false≢true e)
  tree_of (a ∷ l) (t and ts) e b (inl p) = (t, ap (λ (a : ℕ). right_of a t) p ∙ both_left (right_of a t) (right_each right_of l ts) e)
  tree_of (a ∷ l) (t and ts) e b (inr i) = tree_of l ts (both_right (right_of a t) (right_each right_of l ts) e) b i

  -- where none is longer than m, together they are no longer than m for each choice
  trees_length : (m : ℕ) (l : List ℕ) (ts : Trees) → ((b : ℕ) → In b l → (t : Tree) → right_of b t ≡ true → length (tree_bytes t) ≤ m)
      → right_each right_of l ts ≡ true → length (trees_bytes ts) ≤ length l * m
  unfolding right_each trees_bytes In
  trees_length m [] end h e = omega arith
  trees_length m [] (t and ts) h e = absurd (false≢true e)
  trees_length m (b ∷ l) end h e = omega arith
  trees_length m (b ∷ l) (t and ts) h e =
      let this = h b (inl refl) t (both_left (right_of b t) (right_each right_of l ts) e) in
      let rest = trees_length m l ts (λ a i. h a (inr i)) (both_right (right_of b t) (right_each right_of l ts) e) in
      omega (arith, length-append (tree_bytes t) (trees_bytes ts), suc-mul (length l) m)

  -- trees made for each choice are right where each is for its choice
  pub each_right : (tree : ℕ → Tree) (l : List ℕ) → ((b : ℕ) → In b l → right_of b (tree b) ≡ true) → right_each right_of l (tree_each tree l) ≡ true
  unfolding right_each tree_each In
  each_right tree [] h = refl
  each_right tree (b ∷ l) h = both (h b (inl refl)) (each_right tree l (λ a i. h a (inr i)))

module _ (R : Rule) (n : ℕ) where
  -- from every closing nothing passes
  abbrev pub Kills : (List ℕ → Bool) → (List ℕ → Pair → Bool) → Type 0
  Kills passes closes = (k : ℕ) (w : List ℕ) (p : Pair) → Reached R n k w → closes w p ≡ true → (v : List ℕ) → In v (completions R k w) → passes v ≡ false

  -- then nothing passes from a right tree
  pub right_none : (passes : List ℕ → Bool) (closes : List ℕ → Pair → Bool) → Kills passes closes
      → (k : ℕ) (w : List ℕ) (t : Tree) → Reached R n k w → right R closes k w t ≡ true → (v : List ℕ) → In v (completions R k w) → passes v ≡ false
  unfolding right completions
  right_none passes closes kills zero w (closing s u x) r e v i = kills zero w (s, u, x) r e v i
  right_none passes closes kills zero w (split ts) r e v i = absurd (false≢true e)
  right_none passes closes kills (suc k) w (closing s u x) r e v i = kills (suc k) w (s, u, x) r e v i
  right_none passes closes kills (suc k) w (split ts) r e v i =
      let x = flat_in (λ b. completions R k (w adding b)) v (next R w) i in
      let t = tree_of (λ b. right R closes k (w adding b)) (next R w) ts e x.0 x.1 in
      right_none passes closes kills k (w adding x.0) t.0 (reached_next R n k w x.0 r x.1) t.1 v x.2

  -- a split into trees no longer than the longest is no longer than the longest
  pub split_length : TwoEach R n → (k : ℕ) (w : List ℕ) → Reached R n (suc k) w → (right_of : ℕ → Tree → Bool) (ts : Trees)
      → ((b : ℕ) → In b (next R w) → (t : Tree) → right_of b t ≡ true → length (tree_bytes t) ≤ longest_tree k) → right_each right_of (next R w) ts ≡ true
      → length (tree_bytes (split ts)) ≤ longest_tree (suc k)
  unfolding tree_bytes longest_tree
  split_length two k w r right_of ts short e = omega (arith, trees_length right_of (longest_tree k) (next R w) ts short e, mul-le-mul_right (longest_tree k) (two k w r))

  -- so no right tree is longer
  pub tree_length : TwoEach R n → (closes : List ℕ → Pair → Bool) (k : ℕ) (w : List ℕ) (t : Tree) → Reached R n k w → right R closes k w t ≡ true → length (tree_bytes t) ≤ longest_tree k
  unfolding right tree_bytes longest_tree
  tree_length two closes zero w (closing s u v) r e = omega arith
  tree_length two closes zero w (split ts) r e = absurd (false≢true e)
  tree_length two closes (suc k) w (closing s u v) r e = longest_grows zero (suc k) (omega arith)
  tree_length two closes (suc k) w (split ts) r e =
      split_length two k w r (λ b. right R closes k (w adding b)) ts (λ b i t e. tree_length two closes k (w adding b) t (reached_next R n k w b r i) e) e
