-- The search of a node, step by step. The idea: what the choices still offered give, and the length so far with that of their
-- trees, is the whole answer.
use Prim.Native.Nat.{ℕ, ◌+◌, ◌*◌, ◌^◌, ◌≤◌, ◌<◌}
use mathlib.Core.Path.{◌≡◌, refl, sym, ap, ap₂, ◌∙◌}
use mathlib.Core.Bool.{true, false}
use mathlib.Core.List.{List}
use Rattle.std.proofs.Common.{Ok, Err}
use Rattle.std.specs.Prelude.{is_some}
use Rattle.std.specs.declared.result.Result.{Result}
use Rattle.std.specs.declared.option.Option.{Option}
use Rattle.std.specs.declared.option.Option.TheVariants.{None, Some}
use native.Mathlib.Nat.{add-zero}
use native.Mathlib.Omega.{arith}
use lib.ListN.{length}
use Rattle.rules.specs.Rules.{◌adding◌}
use Rattle.rules.proofs.Lists.{first_some, ◌else◌}
use Rattle.records.specs.Records.{inputs, Accepted}
use Rattle.wirings.specs.Wirings.{choice_at}
use Rattle.wirings.specs.Pairs.{Pair, first_dead}
use Rattle.wirings.proofs.Choices.{offered, offered_end}
use Rattle.partial.specs.declared.Masks.{Masks}
use Rattle.partial.specs.Partial.{StandsFor, Formed, prefix, offer_from, as_number, found}
use Rattle.partial.proofs.Standing.{stands_as, stands_choices, stands_n}
use Rattle.partial.proofs.Steps.{Next, goes_on, takes, begins, begins_all, depth_is, left_over, may_take, less_left, offer_after}
use Rattle.claims.specs.Trees.{trees_bytes, tree_each}
use Rattle.matcher.specs.Matching.{first_from, searched}
use Rattle.matcher.proofs.Nodes.{node_bytes, branches, first_among, closed, opened, first_closed, first_whole, first_further}
use Rattle.matcher.proofs.Nodes.{death_at, node_most, branches_long}

-- ---- what a search came to

pub searched_ok : (o : Option (List ℕ)) (long c : ℕ) → Ok c ≡ searched o long → (v : List ℕ) × (o ≡ Some v) × (c ≡ as_number v)
unfolding searched
searched_ok None long c e = cc
searched_ok (Some v) long c e = (v, refl, cc)

pub searched_err : (o : Option (List ℕ)) (long m : ℕ) → Err m ≡ searched o long → (o ≡ None) × (m ≡ long)
unfolding searched
searched_err None long m e = (refl, cc)
searched_err (Some v) long m e = cc

-- a dead pair was found, or none
dead_some : (o : Option Pair) → is_some (found o) ≡ true → (p : Pair) × (o ≡ Some p)
unfolding found
dead_some None e = cc
dead_some (Some p) e = (p, refl)

dead_none : (o : Option Pair) → is_some (found o) ≡ false → o ≡ None
unfolding found
dead_none None e = refl
dead_none (Some p) e = cc

-- ---- the steps

module _ (r : Masks) (q : ℕ) (f g : List ℕ) where
  abbrev n : ℕ
  n = r.n

  abbrev w : List ℕ
  w = prefix r

  -- what the search of the node has to come to
  abbrev pub sought : Result ℕ ℕ
  sought = searched (first_from n q f g w) (length (node_bytes n q f g w))

  -- the bytes of the trees of the choices from place k on, and the first agreeing completion that they give
  abbrev later : ℕ → List ℕ
  later k = branches n q f g w (offered n w k)

  abbrev first_later : ℕ → Option (List ℕ)
  first_later k = first_among n q f g w (offered n w k)

  -- the choices before k gave none, and FF and their trees have so many bytes
  pub record Searching (k so_far : ℕ) : Type 0 where
    pub next : Next n w k
    pub rest : first_later k ≡ first_from n q f g w
    pub long : so_far + length (later k) ≡ length (node_bytes n q f g w)

  module _ (s : Formed r) where
    -- a node with a dead pair, or a whole wiring without one
    module _ (same : n ≡ inputs g) (ok : Accepted f g) where
      pub sought_dead : is_some (found (first_dead n q f g w)) ≡ true → sought ≡ Err 3
      unfolding searched
      sought_dead e =
          let p = dead_some (first_dead n q f g w) e in
          ap₂ searched (first_closed n q f g w s.few s.allowed (death_at n q f g same ok) p.0 p.1)
          (ap length (closed n q f g w p.0 p.1))

      pub sought_whole : is_some (found (first_dead n q f g w)) ≡ false → r.depth ≡ n → sought ≡ Ok r.choices
      unfolding searched
      sought_whole e h =
          let alive = dead_none (first_dead n q f g w) e in
          let whole = first_whole n q f g w s.few s.allowed (death_at n q f g same ok) (depth_is r s ∙ h) alive in
          ap (λ (o : Option (List ℕ)). searched o (length (node_bytes n q f g w))) whole ∙ ap Ok (sym (stands_choices r n w s))

    -- any other is split: FF is one byte
    pub searching_start : is_some (found (first_dead n q f g w)) ≡ false → (r.depth ≡ n → ⊥) → (k : ℕ) → k ≡ offer_from n w 0
        → Searching k 1
    searching_start e h k first =
        let same = sym (begins_all r s k first) in
        let split = opened n q f g w s.few s.allowed (dead_none (first_dead n q f g w) e) in
        record {
          next = begins r s k first;
          rest = ap (first_among n q f g w) same ∙ sym (first_further n q f g w s.few s.allowed (left_over r s h));
          long = ap (λ (l : List ℕ). 1 + length (branches n q f g w l)) same ∙ omega (arith, ap length split);
        }

    -- the choice at a place that is offered, and what the search of its child came to
    module _ (k b : ℕ) (h : k < 2 * n) (is : b ≡ choice_at k) (so_far : ℕ) (i : Searching k so_far) (r' : Masks)
        (placed : StandsFor r' n (w adding b)) where
      abbrev child_first : Option (List ℕ)
      child_first = first_from r'.n q f g (prefix r')

      abbrev child_bytes : List ℕ
      child_bytes = node_bytes r'.n q f g (prefix r')

      whole : (k' : ℕ) → k' ≡ offer_from n w (k + 1) → first_from n q f g w ≡ (child_first else first_later k')
      unfolding first_some
      whole k' next =
          sym i.rest ∙ ap (first_among n q f g w) (takes r s k b h is i.next k' next)
          ∙ sym (stands_as r' n (w adding b) placed (λ m v. first_from m q f g v else first_later k'))

      -- it gives the first
      pub child_found : (c : ℕ) → Ok c ≡ searched child_first (length child_bytes) → Ok c ≡ sought
      unfolding searched ◌else◌
      child_found c came =
          let x = searched_ok child_first (length child_bytes) c came in
          let k' = offer_from n w (k + 1) in
          let first = whole k' refl ∙ ap (λ (o : Option (List ℕ)). o else first_later k') x.1 in
          ap Ok x.2 ∙ sym (ap (λ (o : Option (List ℕ)). searched o (length (node_bytes n q f g w))) first)

      -- it gives none
      module _ (more : ℕ) (came : Err more ≡ searched child_first (length child_bytes)) where
        pub child_none : (k' : ℕ) → k' ≡ offer_from n w (k + 1) → Searching k' (so_far + more)
        unfolding ◌else◌
        child_none k' next =
            let x = searched_err child_first (length child_bytes) more came in
            record {
              next = goes_on r s k b h is i.next k' next;
              rest = sym (whole k' next ∙ ap (λ (o : Option (List ℕ)). o else first_later k') x.0);
              long = omega (arith, x.1, branches_long r q f g s k b h is i.next r' placed k' next, i.long);
            }

        pub sum_fits : so_far + more < 2 ^ 64
        sum_fits = omega (arith, (child_none (offer_from n w (k + 1)) refl).long, node_most n q f g w s.few s.allowed)

    -- after the last choice
    pub searched_all : (k : ℕ) → 2 * n ≤ k → (so_far : ℕ) → Searching k so_far → sought ≡ Err so_far
    unfolding searched first_some tree_each trees_bytes
    searched_all k h so_far i =
        let over = offered_end n w k h in
        ap₂ searched (sym i.rest ∙ ap (first_among n q f g w) over)
        (sym i.long ∙ ap (λ (l : List ℕ). so_far + length (branches n q f g w l)) over ∙ add-zero so_far)

-- ---- as the code meets it

-- a node with a dead pair, and a whole wiring
pub ruleset nodes = (sought_dead, sought_whole)

-- from a node to its child, and to the next choice
pub ruleset steps = (may_take, less_left, offer_after, stands_n)
