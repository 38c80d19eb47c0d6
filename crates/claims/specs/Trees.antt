-- Refusal trees as data: a closing of s, u, v, or a split into trees, one for each choice that may follow. What it means that a
-- tree is right is said over any choice rule and any test of a closing; a later request brings its own.
use Rattle.std.specs.Prelude.{ℕ, zero, suc, ◌+◌, ◌*◌, Bool, true, false, ◌&&◌, List, [], ◌∷◌, ◌++◌}
use Rattle.std.specs.declared.option.Option.{Option}
use Rattle.std.specs.declared.option.Option.TheVariants.{None, Some}
use Rattle.rules.specs.Rules.{Rule, ◌adding◌, next}
use Rattle.wirings.specs.Pairs.{Pair}

infixr 60 ◌and◌
mutual
  pub data Tree : Type 0 where
    closing : ℕ → ℕ → ℕ → Tree
    split : Trees → Tree

  pub data Trees : Type 0 where
    end : Trees
    ◌and◌ : Tree → Trees → Trees

-- a tree's bytes: s, u, v; or FF, then those of its trees
unfoldable mutual
  pub tree_bytes : Tree → List ℕ
  tree_bytes (closing s u v) = s ∷ u ∷ v ∷ []
  tree_bytes (split l) = 0xFF ∷ trees_bytes l

  pub trees_bytes : Trees → List ℕ
  trees_bytes end = []
  trees_bytes (t and l) = tree_bytes t ++ trees_bytes l

-- there are as many trees as choices, and each is right for its choice
unfoldable pub right_each : (ℕ → Tree → Bool) → List ℕ → Trees → Bool
right_each right [] end = true
right_each right [] (t and l) = false
right_each right (b ∷ c) end = false
right_each right (b ∷ c) (t and l) = right b t && right_each right c l

-- a tree is right after the choices w with k inputs still to be placed: a closing closes there; a split has the trees of the
-- choices that may follow, in order, and where no input is left to be placed there is none
module _ (R : Rule) (closes : List ℕ → Pair → Bool) where
  unfoldable pub right : ℕ → List ℕ → Tree → Bool
  right zero w (closing s u v) = closes w (s, u, v)
  right zero w (split l) = false
  right (suc k) w (closing s u v) = closes w (s, u, v)
  right (suc k) w (split l) = right_each (λ b. right k (w adding b)) (next R w) l

-- ---- the matcher's own tree

-- closed with a pair, if there is one, and else split
unfoldable pub closed_by : Option Pair → Trees → Tree
closed_by (Some p) l = closing p.0 p.1 p.2
closed_by None l = split l

-- a tree for each choice of a list
unfoldable pub tree_each : (ℕ → Tree) → List ℕ → Trees
tree_each tree [] = end
tree_each tree (b ∷ l) = tree b and tree_each tree l

-- after the choices w with k inputs still to be placed: a node with a dead pair is closed with the first, every other is split
module _ (R : Rule) (first_dead : List ℕ → Option Pair) where
  unfoldable pub own : ℕ → List ℕ → Tree
  own zero w = closed_by (first_dead w) end
  own (suc k) w = closed_by (first_dead w) (tree_each (λ b. own k (w adding b)) (next R w))

-- ---- the longest

-- the length of the longest tree with k inputs to be placed: it splits everywhere, into two trees for each input of g that is left
unfoldable pub longest_tree : ℕ → ℕ
longest_tree zero = 3
longest_tree (suc k) = 1 + 2 * suc k * longest_tree k
