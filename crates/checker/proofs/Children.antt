-- The tree at a place, case by case, and the trees of a split, choice by choice. The idea: what is left to be read of a split's
-- trees, from choice k of the order on, is the whole answer.
use Prim.Native.Nat.{ℕ, zero, suc, ◌+◌, ◌-◌, ◌*◌, ◌≤◌, ◌<◌}
use mathlib.Core.Bool.{cond}
use mathlib.Core.Logic.{⊎_elim}
use mathlib.Core.Path.{◌≡◌, refl, sym, ap, ◌∙◌, fun_ext}
use mathlib.Core.List.{List, [], ◌∷◌}
use native.Mathlib.Nat.{eq-or-lt_of_le}
use native.Mathlib.Omega.{arith}
use Rattle.std.proofs.Common.{Ok, Err}
use Rattle.std.specs.declared.result.Result.{Result}
use borrow.Author.Tests.{le-leb, lt-leb, eq-eqb, ne_eqb}
use lib.Dec.{leb, eqb}
use lib.ListN.{length, get_or, length-append}
use Rattle.answers.specs.declared.Fault.{Fault}
use Rattle.answers.specs.Answers.{fault}
use Rattle.answers.specs.Verdicts.{reached}
use Rattle.rules.specs.Rules.{◌adding◌, next}
use Rattle.wirings.specs.Wirings.{straight, choice_at}
use Rattle.wirings.proofs.Choices.{offered, offered_end}
use Rattle.partial.specs.declared.Wiring.{Wiring}
use Rattle.partial.specs.Partial.{StandsFor, prefix, offer_from}
use Rattle.partial.proofs.Standing.{stands_as, placed_within}
use Rattle.partial.proofs.Steps.{Next, depth_is, goes_on, takes, begins, begins_all}
use Rattle.claims.specs.Reading.{node, in_turn, read_tree}
use Rattle.checker.specs.Checking.{closing_fault, tree_fault}
use Rattle.checker.proofs.Reached.{from_there, readings, reached_to, reached_onward}

module _ (n q : ℕ) (f g c w : List ℕ) where
  -- the trees of some choices, and of those that are offered from place k of the order on
  abbrev pub each_read : List ℕ → ℕ → Fault
  each_read l = in_turn (λ b. tree_fault n q f g c (w adding b)) l

  unfoldable pub children : ℕ → ℕ → Fault
  children k at = each_read (offered n w k) at

  -- a node: no byte, a split, which is refused where no input is left, or a closing
  abbrev at_node : ℕ → Fault → Fault
  at_node at split = node (straight n) (closing_fault n q f g c) c w at split

  pub node_is : (at : ℕ) → tree_fault n q f g c w at ≡ at_node at (cond (leb n (length w)) (fault 16 at) (children 0 (at + 1)))
  unfolding tree_fault read_tree children offered
  node_is at = go (n - length w) refl
    where
      read : ℕ → List ℕ → ℕ → Fault
      read = read_tree (straight n) (closing_fault n q f g c) c

      go : (k : ℕ) → n - length w ≡ k → read k w at ≡ at_node at (cond (leb n (length w)) (fault 16 at) (children 0 (at + 1)))
      go zero e = simp (le-leb n (length w) (omega (arith, e))) refl
      go (suc k) e =
          let less : (b : ℕ) → k ≡ n - length (w adding b) = λ b. omega (arith, length-append w (b ∷ []), e) in
          simp (lt-leb n (length w) (omega (arith, e)))
          (ap (λ (each : ℕ → ℕ → Fault). at_node at (in_turn each (next (straight n) w) (at + 1)))
          (fun_ext (λ b. ap (λ (m : ℕ). read m (w adding b)) (less b))))

-- ---- as the code meets them, with the choices in a wiring by value

module _ (x : Wiring) (q : ℕ) (f g c : List ℕ) where
  abbrev n : ℕ
  n = x.masks.n

  abbrev w : List ℕ
  w = prefix x.masks

  -- what its tree comes to, and the trees from choice k on, or those of a list
  abbrev pub whole : ℕ → Result ℕ Fault
  whole at = reached (tree_fault n q f g c w at)

  abbrev pub left : ℕ → ℕ → Result ℕ Fault
  left k at = reached (children n q f g c w k at)

  abbrev listed : ℕ → List ℕ → Result ℕ Fault
  listed at l = reached (each_read n q f g c w l at)

  pub tree_node : (at : ℕ)
      → whole at
      ≡ cond (leb (length c) at) (Err (fault 1 (length c)))
      (cond (eqb (get_or c at 0) 0xFF) (cond (eqb x.masks.depth n) (Err (fault 16 at)) (left 0 (at + 1)))
      (reached (closing_fault n q f g c w at)))
  tree_node at = ap reached (node_is n q f g c w at) ∙ grind (arith, readings, depth_told)
    where
      depth_told : leb n (length w) ≡ eqb x.masks.depth n
      depth_told =
          let told = depth_is x.masks x.formed in
          ⊎_elim (λ (e : length w ≡ n). simp (le-leb n (length w) (omega (arith, e)), eq-eqb x.masks.depth n (omega (arith, told, e))) refl)
          (λ (h : length w < n). simp (lt-leb n (length w) h, ne_eqb x.masks.depth n (λ e. omega (arith, told, h, e))) refl)
          (eq-or-lt_of_le (placed_within n x.formed.few w x.formed.allowed))

  -- the trees before choice k are read, up to `at`; what is left is the whole answer
  pub record Reading (start k at : ℕ) : Type 0 where
    pub next : Next n w k
    pub rest : left k at ≡ whole start

  pub reading_start : (start k : ℕ) → start < length c → get_or c start 0 ≡ 0xFF → (x.masks.depth ≡ n → ⊥) → k ≡ offer_from n w 0
      → Reading start k (start + 1)
  unfolding children
  reading_start start k there marked deeper first = record {
    next = begins x.masks x.formed k first;
    rest =
        ap (listed (start + 1)) (sym (begins_all x.masks x.formed k first))
        ∙ sym (tree_node start ∙ simp (lt-leb (length c) start there, eq-eqb (get_or c start 0) 0xFF marked, ne_eqb x.masks.depth n deeper) refl);
  }

  module _ (start k at b : ℕ) (so_far : Reading start k at) (h : k < 2 * n) (is : b ≡ choice_at k)
      (y : Wiring) (placed : StandsFor y.masks n (w adding b)) (child : Result ℕ Fault)
      (read : child ≡ reached (tree_fault y.masks.n q f g c (prefix y.masks) at)) where
    -- the child's tree, and those after it
    through_child : (k' : ℕ) → k' ≡ offer_from n w (k + 1) → from_there child (left k') ≡ whole start
    unfolding children in_turn
    through_child k' after =
        ap (λ (r : Result ℕ Fault). from_there r (left k'))
        (read ∙ stands_as y.masks n (w adding b) placed (λ m v. reached (tree_fault m q f g c v at)))
        ∙ sym (reached_onward (tree_fault n q f g c (w adding b) at) (children n q f g c w k'))
        ∙ ap (listed at) (sym (takes x.masks x.formed k b h is so_far.next k' after))
        ∙ so_far.rest

    pub child_read : (end k' : ℕ) → child ≡ Ok end → k' ≡ offer_from n w (k + 1) → Reading start k' end
    child_read end k' e after = record {
      next = goes_on x.masks x.formed k b h is so_far.next k' after;
      rest = ap (λ (r : Result ℕ Fault). from_there r (left k')) (sym e) ∙ through_child k' after;
    }

    pub child_refused : (bad : Fault) → child ≡ Err bad → Err bad ≡ whole start
    child_refused bad e =
        let k' = offer_from n w (k + 1) in
        ap (λ (r : Result ℕ Fault). from_there r (left k')) (sym e) ∙ through_child k' refl

  pub all_read : (start k at : ℕ) → Reading start k at → 2 * n ≤ k → Ok at ≡ whole start
  unfolding children in_turn
  all_read start k at so_far h = sym (reached_to at) ∙ ap (listed at) (sym (offered_end n w k h)) ∙ so_far.rest
