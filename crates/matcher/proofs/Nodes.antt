-- A node of the search, case by case. The idea: a node with a dead pair has no agreeing completion and a tree of three bytes; a
-- whole wiring without one agrees; every other node is split, its first agreeing completion is the first that a choice gives, and
-- its tree is FF and the trees of the choices.
use Prim.Native.Nat.{ℕ, zero, suc, ◌+◌, ◌-◌, ◌*◌, ◌≤◌, ◌<◌}
use mathlib.Core.Path.{◌≡◌, refl, sym, ap, ◌∙◌, subst, fun_ext}
use mathlib.Core.Bool.{Bool, true, cond}
use mathlib.Core.List.{List, [], ◌∷◌, ◌++◌}
use Rattle.std.specs.declared.option.Option.{Option}
use Rattle.std.specs.declared.option.Option.TheVariants.{None, Some}
use mathlib.Core.Logic.{⊎_elim}
use native.Mathlib.Nat.{le_trans, eq-or-lt_of_le}
use native.Mathlib.Omega.{arith}
use lib.ListN.{length, length-append}
use Rattle.rules.specs.Lists.{first}
use Rattle.rules.specs.Rules.{◌adding◌, next, completions, follows}
use Rattle.rules.proofs.Lists.{first_some, first_flat}
use Rattle.rules.proofs.Cut.{Reached, Death, cut_first, whole_passes}
use Rattle.records.specs.Records.{inputs, Accepted}
use Rattle.wirings.specs.Wirings.{straight, choice_at, agrees}
use Rattle.wirings.specs.Pairs.{Pair, first_dead}
use Rattle.wirings.proofs.Choices.{free_number, offered}
use Rattle.wirings.proofs.Death.{some_dead, found_dead, first_dead_none, death}
use Rattle.partial.specs.declared.Masks.{Masks}
use Rattle.partial.specs.declared.Pair.{Pair as PairFound}
use Rattle.partial.specs.Partial.{StandsFor, Formed, prefix, offer_from, found}
use Rattle.partial.proofs.Standing.{stands_as, placed_within}
use Rattle.partial.proofs.Steps.{Next, takes}
use Rattle.partial.proofs.Rows.{found_some, found_none}
use Rattle.claims.specs.Trees.{Tree, end, tree_bytes, trees_bytes, closed_by, tree_each, own, longest_tree}
use Rattle.claims.specs.Claims.{own_tree}
use Rattle.claims.proofs.Trees.{longest_grows}
use Rattle.claims.proofs.Own.{own_most}
use Rattle.matcher.specs.Matching.{first_from}

module _ (n q : ℕ) (f g w : List ℕ) where
  -- the bytes of a node's tree, and of the trees of some choices after it
  abbrev pub node_bytes : List ℕ
  node_bytes = tree_bytes (own_tree n q f g w)

  abbrev pub branches : List ℕ → List ℕ
  branches l = trees_bytes (tree_each (λ b. own_tree n q f g (w adding b)) l)

  -- the first agreeing completion that some choices give
  abbrev pub first_among : List ℕ → Option (List ℕ)
  first_among l = first_some (λ b. first_from n q f g (w adding b)) l

  -- a dead pair closes the node
  pub closed : (p : Pair) → first_dead n q f g w ≡ Some p → node_bytes ≡ p.0 ∷ p.1 ∷ p.2 ∷ []
  unfolding own_tree own closed_by tree_bytes
  closed p e = go (n - length w)
    where
      go : (k : ℕ) → tree_bytes (own (straight n) (first_dead n q f g) k w) ≡ p.0 ∷ p.1 ∷ p.2 ∷ []
      go zero = simp e
      go (suc k) = simp e

  less : (k b : ℕ) → n - length w ≡ suc k → n - length (w adding b) ≡ k
  less k b h = omega (arith, length-append w (b ∷ []))

  module _ (few : n ≤ 8) (allowed : follows (straight n) [] w ≡ true) where
    within : length w ≤ n
    within = placed_within n few w allowed

    -- where all inputs are placed, no choice may follow
    none_follows : length w ≡ n → next (straight n) w ≡ []
    none_follows h = empty (next (straight n) w) (free_number n (omega arith) w allowed 0 (omega arith))
      where
        empty : (l : List ℕ) → length l ≡ 0 → l ≡ []
        empty [] e = refl
        empty (b ∷ l) e = absurd (omega (arith, e))

    -- without one it is split
    pub opened : first_dead n q f g w ≡ None → node_bytes ≡ 0xFF ∷ branches (offered n w 0)
    unfolding own_tree own closed_by tree_bytes tree_each offered
    opened e = ⊎_elim at_end further (eq-or-lt_of_le within)
      where
        at_end : length w ≡ n → tree_bytes (own_tree n q f g w) ≡ 0xFF ∷ branches (offered n w 0)
        at_end h =
            let left : n - length w ≡ zero = omega arith in
            ap (λ (k : ℕ). tree_bytes (own (straight n) (first_dead n q f g) k w)) left
            ∙ ap (λ (o : Option Pair). tree_bytes (closed_by o end)) e
            ∙ ap (λ (l : List ℕ). 0xFF ∷ branches l) (sym (none_follows h))

        further : length w < n → tree_bytes (own_tree n q f g w) ≡ 0xFF ∷ branches (offered n w 0)
        further h =
            let k = n - suc (length w) in
            let left : n - length w ≡ suc k = omega arith in
            let each : ℕ → Tree = λ b. own (straight n) (first_dead n q f g) k (w adding b) in
            ap (λ (k : ℕ). tree_bytes (own (straight n) (first_dead n q f g) k w)) left
            ∙ ap (λ (o : Option Pair). tree_bytes (closed_by o (tree_each each (next (straight n) w)))) e
            ∙ ap (λ (t : ℕ → Tree). 0xFF ∷ trees_bytes (tree_each t (next (straight n) w)))
            (fun_ext (λ b. ap (λ (m : ℕ). own (straight n) (first_dead n q f g) m (w adding b)) (sym (less k b left))))

    -- the first agreeing completion is the first that a choice gives
    pub first_further : length w < n → first_from n q f g w ≡ first_among (offered n w 0)
    unfolding first_from completions offered
    first_further h =
        let k = n - suc (length w) in
        let left : n - length w ≡ suc k = omega arith in
        let from : ℕ → List ℕ → Option (List ℕ) = λ k w. first (agrees q f g) (completions (straight n) k w) in
        ap (λ (k : ℕ). from k w) left
        ∙ first_flat (agrees q f g) (λ b. completions (straight n) k (w adding b)) (next (straight n) w)
        ∙ ap (λ (t : ℕ → Option (List ℕ)). first_some t (next (straight n) w))
        (fun_ext (λ b. ap (λ (m : ℕ). from m (w adding b)) (sym (less k b left))))

    module _ (d : Death (straight n) n (agrees q f g) (some_dead n q f g)) where
      -- a node with a dead pair has none
      pub first_closed : (p : Pair) → first_dead n q f g w ≡ Some p → first_from n q f g w ≡ None
      unfolding first_from
      first_closed p e =
          let reached : Reached (straight n) n (n - length w) w = record { total = omega (arith, within); allowed = allowed } in
          cut_first (straight n) n (agrees q f g) (some_dead n q f g) d (n - length w) w reached (found_dead n q f g w p e)

      -- and a whole wiring without one agrees
      pub first_whole : length w ≡ n → first_dead n q f g w ≡ None → first_from n q f g w ≡ Some w
      unfolding first_from completions first
      first_whole h e =
          let left : n - length w ≡ zero = omega arith in
          let reached : Reached (straight n) n 0 w = record { total = omega arith; allowed = allowed } in
          ap (λ (k : ℕ). first (agrees q f g) (completions (straight n) k w)) left
          ∙ ap (λ (t : Bool). cond t (Some w) None)
          (whole_passes (straight n) n (agrees q f g) (some_dead n q f g) d w reached (first_dead_none n q f g w e))

-- accepted functions have such a death
pub death_at : (n q : ℕ) (f g : List ℕ) → n ≡ inputs g → Accepted f g → Death (straight n) n (agrees q f g) (some_dead n q f g)
death_at n q f g same ok = subst (λ (n : ℕ). Death (straight n) n (agrees q f g) (some_dead n q f g)) (sym same) (death q f g ok)

-- no tree is longer than this; so lengths can be summed
pub node_most : (n q : ℕ) (f g w : List ℕ) → n ≤ 8 → follows (straight n) [] w ≡ true → length (node_bytes n q f g w) ≤ 37661809
unfolding longest_tree
node_most n q f g w few allowed =
    let within = placed_within n few w allowed in
    let less : n - length w ≤ 8 = omega arith in
    le_trans (own_most n q f g w few allowed within) (longest_grows (n - length w) 8 less)

-- ---- as the code meets it, with the choices in a wiring by value

module _ (r : Masks) (q : ℕ) (f g : List ℕ) (s : Formed r) where
  abbrev n : ℕ
  n = r.n

  abbrev w : List ℕ
  w = prefix r

  -- the pair that is found closes the node
  pub closing_node : (p : PairFound) → Some p ≡ found (first_dead n q f g w) → node_bytes n q f g w ≡ p.s ∷ p.u ∷ p.v ∷ []
  closing_node p e =
      let x = found_some (first_dead n q f g w) p e in
      closed n q f g w x.0 x.1 ∙ ap (λ (p : PairFound). p.s ∷ p.u ∷ p.v ∷ []) (sym x.2)

  -- without one the node is split
  pub opened_node : None ≡ found (first_dead n q f g w) → node_bytes n q f g w ≡ 0xFF ∷ branches n q f g w (offered n w 0)
  opened_node e = opened n q f g w s.few s.allowed (found_none (first_dead n q f g w) e)

  -- the choice at a place that is offered, and the wiring that has it: its tree comes first, then those of the choices after it
  module _ (k b : ℕ) (h : k < 2 * n) (is : b ≡ choice_at k) (here : Next n w k) (r' : Masks)
      (placed : StandsFor r' n (w adding b)) (k' : ℕ) (next : k' ≡ offer_from n w (k + 1)) where
    abbrev later : ℕ → List ℕ
    later k = branches n q f g w (offered n w k)

    pub branches_on : later k ≡ node_bytes r'.n q f g (prefix r') ++ later k'
    unfolding tree_each trees_bytes
    branches_on =
        ap (branches n q f g w) (takes r s k b h is here k' next)
        ∙ sym (stands_as r' n (w adding b) placed (λ m v. node_bytes m q f g v ++ branches n q f g w (offered n w k')))

    pub branches_long : length (later k) ≡ length (node_bytes r'.n q f g (prefix r')) + length (later k')
    branches_long = ap length branches_on ∙ length-append (node_bytes r'.n q f g (prefix r')) (later k')
