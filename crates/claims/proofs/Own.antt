-- The matcher's own tree: no longer than the longest, and right where nothing passes. The idea: a node with a dead pair is closed by
-- it; any other is split, and where nothing passes an input is left to be placed, since a whole way that is not dead passes.
use Prim.Native.Nat.{ℕ, zero, suc, ◌-◌, ◌≤◌}
use mathlib.Core.Path.{◌≡◌, refl, sym, ◌∙◌}
use mathlib.Core.Bool.{Bool, true, false, false≢true}
use mathlib.Core.List.{List, []}
use Rattle.std.specs.declared.option.Option.{Option}
use Rattle.std.specs.declared.option.Option.TheVariants.{None, Some}
use mathlib.Core.Logic.{inl}
use native.Mathlib.Nat.{sub-zero}
use native.Mathlib.Omega.{arith}
use borrow.Author.Tests.{leb-true, le-leb}
use lib.Dec.{leb}
use lib.ListN.{length}
use Rattle.bits.proofs.Tests.{both}
use Rattle.rules.specs.Rules.{Rule, ◌adding◌, next, completions, follows}
use Rattle.rules.proofs.Lists.{In, in_flat}
use Rattle.rules.proofs.Cut.{Reached, Death, reached_start, reached_next, whole_passes}
use Rattle.records.specs.Records.{inputs, Accepted}
use Rattle.wirings.specs.Wirings.{straight, agrees}
use Rattle.wirings.specs.Pairs.{Pair, first_dead}
use Rattle.wirings.proofs.Death.{some_dead, first_dead_is, first_dead_none, death}
use Rattle.claims.specs.Trees.{Tree, Trees, closing, split, tree_bytes, trees_bytes, closed_by, right, own, longest_tree}
use Rattle.claims.specs.Claims.{closes, right_for, own_tree}
use Rattle.claims.proofs.Trees.{TwoEach, longest_grows, split_length, each_right}
use Rattle.claims.proofs.Refusals.{two_each, in_names}

-- ---- a node: what holds of the closing where there is a pair, and of the split where there is none, holds of it

closed_cases : (Q : Tree → Type 0) (o : Option Pair) (ts : Trees) → ((p : Pair) → o ≡ Some p → Q (closing p.0 p.1 p.2)) → (o ≡ None → Q (split ts)) → Q (closed_by o ts)
unfolding closed_by
closed_cases Q (Some p) ts shut parted = shut p refl
closed_cases Q None ts shut parted = parted refl

-- ---- over any rule

module _ (R : Rule) (n : ℕ) (first_pair : List ℕ → Option Pair) where
  -- whatever pairs are named, the tree is no longer than the longest
  pub own_length : TwoEach R n → (k : ℕ) (w : List ℕ) → Reached R n k w → length (tree_bytes (own R first_pair k w)) ≤ longest_tree k
  unfolding own tree_bytes trees_bytes longest_tree
  own_length two zero w r = closed_cases (λ t. length (tree_bytes t) ≤ 3) (first_pair w) _ (λ _ _. omega arith) (λ _. omega arith)
  own_length two (suc k) w r =
      let short : ℕ → Tree → Bool = λ b t. leb (length (tree_bytes t)) (longest_tree k) in
      closed_cases (λ t. length (tree_bytes t) ≤ longest_tree (suc k)) (first_pair w) _ (λ _ _. longest_grows zero (suc k) (omega arith))
      (λ _.
      split_length R n two k w r short _ (λ b i t e. leb-true _ _ e)
      (each_right short (λ b. own R first_pair k (w adding b)) (next R w) (λ b i. le-leb _ _ (own_length two k (w adding b) (reached_next R n k w b r i)))))

  -- and where from w nothing passes it is right: each pair that is named closes, and where none is named w is not dead
  module _ (passes dead : List ℕ → Bool) (closes : List ℕ → Pair → Bool) (d : Death R n passes dead)
      (shut : (w : List ℕ) (p : Pair) → first_pair w ≡ Some p → closes w p ≡ true) (alive : (w : List ℕ) → first_pair w ≡ None → dead w ≡ false) where
    pub own_right : (k : ℕ) (w : List ℕ) → Reached R n k w → ((v : List ℕ) → In v (completions R k w) → passes v ≡ false) → right R closes k w (own R first_pair k w) ≡ true
    unfolding own right completions In
    own_right zero w r h =
        closed_cases (λ t. right R closes zero w t ≡ true) (first_pair w) _ (λ p e. shut w p e)
        (λ e. absurd (false≢true (sym (h w (inl refl)) ∙ whole_passes R n passes dead d w r (alive w e))))
    own_right (suc k) w r h =
        closed_cases (λ t. right R closes (suc k) w t ≡ true) (first_pair w) _ (λ p e. shut w p e)
        (λ _.
        each_right (λ b. right R closes k (w adding b)) (λ b. own R first_pair k (w adding b)) (next R w)
        (λ b i. own_right k (w adding b) (reached_next R n k w b r i) (λ v j. h v (in_flat (λ b. completions R k (w adding b)) b v (next R w) i j))))

-- ---- by the rules of document 01

-- the tree for q is right where no wiring of that phase agrees
pub own_right_for : (q : ℕ) (f g : List ℕ) → Accepted f g → ((w : List ℕ) → In w (completions (straight (inputs g)) (inputs g) []) → agrees q f g w ≡ false)
    → right_for q f g (own_tree (inputs g) q f g []) ≡ true
unfolding own_tree
own_right_for q f g ok h =
    let n = inputs g in
    rw sub-zero
    (own_right (straight n) n (first_dead n q f g) (agrees q f g) (some_dead n q f g) (closes q f g) (death q f g ok)
    (λ w p e. let x = first_dead_is n q f g w p e in both (in_names q f g p x.0) x.1) (first_dead_none n q f g) n [] (reached_start (straight n) n) h)

-- and it is never longer than the longest
pub own_most : (n q : ℕ) (f g w : List ℕ) → n ≤ 8 → follows (straight n) [] w ≡ true → length w ≤ n → length (tree_bytes (own_tree n q f g w)) ≤ longest_tree (n - length w)
unfolding own_tree
own_most n q f g w few allowed within =
    own_length (straight n) n (first_dead n q f g) (two_each n (omega arith)) (n - length w) w (record { total = omega arith; allowed = allowed })
