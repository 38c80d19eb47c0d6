-- What the search for a dead pair means on patterns, over its contract: of any outcome that the contract allows. For two accepted
-- records with the same number of inputs, and a partial wiring of as many.
use Prim.Native.Nat.{ℕ, ◌+◌}
use mathlib.Core.Path.{◌≡◌, refl, sym, ap, ◌∙◌, subst}
use mathlib.Core.Bool.{true, false, false≢true}
use Rattle.std.specs.Prelude.{is_some, is_none}
use Rattle.std.specs.declared.option.Option.TheVariants.{None, Some}
use mathlib.Core.List.{List, []}
use Rattle.std.specs.declared.option.Option.{Option}
use contract.Lifetimes.{Lfts}
use borrow.Fn.Kinds.{Dens, res_t, ended_of}
use denote.Triple.Clauses.{AtExit}
use native.Mathlib.Omega.{arith}
use lib.ListN.{length}
use Rattle.rules.specs.Rules.{completions, follows}
use Rattle.rules.proofs.Lists.{In, some_if}
use Rattle.rules.proofs.Cut.{Reached}
use Rattle.records.specs.Records.{inputs, Accepted}
use Rattle.wirings.specs.Wirings.{straight, agrees}
use Rattle.wirings.specs.Pairs.{Pair, pairs, first_dead}
use Rattle.wirings.proofs.Death.{some_dead, first_dead_is, never_agrees}
use Rattle.partial.specs.Partial.{prefix, found}
use Rattle.partial.proofs.Rows.{found_is_some}
use Rattle.partial.proofs.Whole.{agrees_found}
use Rattle.partial.proofs.Wiring.first_dead.Kinds as first_dead_kinds
use Rattle.partial.proofs.Wiring.first_dead.Reads as search

-- a pair that is there
there : (o : Option Pair) → is_some o ≡ true → (x : Pair) × (o ≡ Some x)
there None e = absurd (false≢true e)
there (Some x) e = (x, refl)

module _ (κs : Lfts 2) (a : Dens κs first_dead_kinds.ps) (r : (res_t first_dead_kinds.r κs).Denot) (s : AtExit (ended_of 2 first_dead_kinds.ps first_dead_kinds.r) κs)
    (p : search.Post κs a r s) where
  abbrev w : List ℕ
  w = prefix a.0.masks

  abbrev f : List ℕ
  f = a.1.0.bytes.now

  abbrev g : List ℕ
  g = a.1.1.0.bytes.now

  abbrev q : ℕ
  q = a.1.1.1.0

  module _ (ok : Accepted f g) (same : a.0.masks.n ≡ inputs g) where
    abbrev n : ℕ
    n = inputs g

    abbrev pair : Option Pair
    pair = first_dead n q f g w

    -- the outcome is the first dead pair, or none
    is_found : r ≡ found pair
    is_found = p ∙ ap (λ (m : ℕ). found (first_dead m q f g w)) same

    reached : (k : ℕ) → k + length w ≡ n → Reached (straight n) n k w
    reached k total = record { total = total; allowed = subst (λ (m : ℕ). follows (straight m) [] w ≡ true) same a.0.formed.allowed }

    -- where a pair is found, no completion agrees
    pub found_closes : is_some r ≡ true → (k : ℕ) → k + length w ≡ n → (v : List ℕ) → In v (completions (straight n) k w) → agrees q f g v ≡ false
    unfolding some_dead
    found_closes e k total =
        let x = there pair (sym (found_is_some pair) ∙ ap is_some (sym is_found) ∙ e) in
        let y = first_dead_is n q f g w x.0 x.1 in
        never_agrees q f g ok k w (reached k total) (some_if _ x.0 (pairs q f g) y.0 y.1)

    -- where none is found under a whole wiring, it agrees
    pub none_agrees : is_none r ≡ true → length w ≡ n → agrees q f g w ≡ true
    none_agrees e whole = agrees_found q f g ok w (reached 0 (omega (arith, whole))) ∙ ap is_none (sym is_found) ∙ e
