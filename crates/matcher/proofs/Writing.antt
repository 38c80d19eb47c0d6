-- The writing of a node's tree, step by step. The idea: what is written, followed by the trees of the choices still offered, is
-- the whole tree.
use Prim.Native.Nat.{ℕ, ◌+◌, ◌*◌, ◌≤◌, ◌<◌}
use mathlib.Core.Path.{◌≡◌, refl, sym, ap, ap₂, ◌∙◌}
use mathlib.Core.List.{List, []}
use Rattle.std.specs.declared.option.Option.TheVariants.{None}
use native.Mathlib.Numerals.{add-one}
use native.Mathlib.Omega.{arith}
use lib.ListN.{length, set}
use lib.Seq.{sets}
use Rattle.rules.specs.Rules.{◌adding◌}
use Rattle.answers.proofs.Stores.{sets_join}
use Rattle.wirings.specs.Wirings.{choice_at}
use Rattle.wirings.specs.Pairs.{first_dead}
use Rattle.wirings.proofs.Choices.{offered, offered_end}
use Rattle.partial.specs.declared.Masks.{Masks}
use Rattle.partial.specs.Partial.{StandsFor, Formed, prefix, offer_from, found}
use Rattle.partial.proofs.Steps.{Next, goes_on, begins, begins_all}
use Rattle.claims.specs.Trees.{trees_bytes, tree_each}
use Rattle.partial.proofs.Whole.{few_found}
use Rattle.matcher.proofs.Nodes.{node_bytes, branches, closing_node, opened_node, branches_on, branches_long}

module _ (r : Masks) (q : ℕ) (f g : List ℕ) where
  abbrev n : ℕ
  n = r.n

  abbrev w : List ℕ
  w = prefix r

  -- the bytes of the node's tree, and those of the trees of the choices from place k on
  abbrev bytes : List ℕ
  bytes = node_bytes n q f g w

  abbrev later : ℕ → List ℕ
  later k = branches n q f g w (offered n w k)

  -- FF and the trees of the choices before k are written from `start` up to `at`
  pub record Writing (before : List ℕ) (start k at : ℕ) (out : List ℕ) : Type 0 where
    pub next : Next n w k
    pub long : at + length (later k) ≡ start + length bytes
    pub rest : sets out at (later k) ≡ sets before start bytes

  module _ (s : Formed r) where
    -- a split begins with FF, and the trees come after it
    module _ (e : None ≡ found (first_dead n q f g w)) where
      pub mark_room : (start room : ℕ) → start + length bytes ≤ room → start < room
      mark_room start room fit = omega (arith, ap length (opened_node r q f g s e))

      pub writing_start : (before : List ℕ) (start k : ℕ) → k ≡ offer_from n w 0
          → Writing before start k (start + 1) (set before start 0xFF)
      writing_start before start k first =
          let same = ap (branches n q f g w) (sym (begins_all r s k first)) in
          let split = opened_node r q f g s e in
          record {
            next = begins r s k first;
            long = omega (arith, ap length split, ap length same);
            rest = ap₂ (sets (set before start 0xFF)) (add-one start) same ∙ ap (sets before start) (sym split);
          }

    -- the tree of the choice at a place that is offered has room, and is written
    module _ (k b : ℕ) (h : k < 2 * n) (is : b ≡ choice_at k) (before : List ℕ) (start at : ℕ) (out : List ℕ)
        (i : Writing before start k at out) (r' : Masks) (placed : StandsFor r' n (w adding b)) where
      abbrev child : List ℕ
      child = node_bytes r'.n q f g (prefix r')

      pub child_room : (room : ℕ) → start + length bytes ≤ room → at + length child ≤ room
      child_room room fit =
          omega (arith, branches_long r q f g s k b h is i.next r' placed (offer_from n w (k + 1)) refl, i.long)

      pub child_written : (past : ℕ) (out' : List ℕ) → past ≡ at + length child → out' ≡ sets out at child
          → (k' : ℕ) → k' ≡ offer_from n w (k + 1) → Writing before start k' past out'
      child_written past out' ends now k' next =
          let more = branches_on r q f g s k b h is i.next r' placed k' next in
          record {
            next = goes_on r s k b h is i.next k' next;
            long = omega (arith, branches_long r q f g s k b h is i.next r' placed k' next, i.long);
            rest =
                ap₂ (λ (l : List ℕ) (at : ℕ). sets l at (later k')) now ends ∙ sets_join out child (later k') at
                ∙ ap (sets out at) (sym more) ∙ i.rest;
          }

  -- after the last choice no tree is left
  pub later_end : (k : ℕ) → 2 * n ≤ k → later k ≡ []
  unfolding tree_each trees_bytes
  later_end k h = ap (branches n q f g w) (offered_end n w k h)

-- a node that is closed, and the end of one that is split
pub ruleset writing = (closing_node, few_found, later_end)
