-- What is found in two accepted records: a pair of cubes below 64; and under a whole wiring, none exactly when it agrees.
use Prim.Native.Nat.{ℕ}
use mathlib.Core.Path.{◌≡◌, refl, sym, ap, ◌∙◌, subst}
use Rattle.std.specs.Option.{is_none}
use mathlib.Core.Bool.{true, false, false≢true}
use mathlib.Core.List.{List}
use mathlib.Core.Logic.{inl, ⊎_elim}
use Rattle.std.specs.declared.option.Option.{Option}
use Rattle.std.specs.declared.option.Option.TheVariants.{None, Some}
use Rattle.bits.proofs.Tests.{decide}
use Rattle.rules.specs.Rules.{completions}
use Rattle.rules.proofs.Lists.{In}
use Rattle.rules.proofs.Cut.{Reached}
use Rattle.records.specs.Records.{inputs, Accepted}
use Rattle.records.proofs.Frame.{framed_both}
use Rattle.wirings.specs.Wirings.{straight, agrees}
use Rattle.wirings.specs.Pairs.{Pair, first_dead}
use Rattle.wirings.proofs.Death.{few_pairs, first_exists_dead, first_dead_is, found_dead, never_agrees, whole_dead}
use Rattle.partial.specs.declared.Pair.{Pair as PairFound}
use Rattle.partial.specs.Partial.{found, Few}
use Rattle.partial.proofs.Rows.{found_some}

pub few_found : (n q : ℕ) (f g w : List ℕ) → Accepted f g → (p : PairFound) → Some p ≡ found (first_dead n q f g w) → Few p
few_found n q f g w ok p e =
    let framed = framed_both f g ok in
    let x = found_some (first_dead n q f g w) p e in
    let few = few_pairs q f g framed.0 framed.1 x.0 (first_dead_is n q f g w x.0 x.1).0 in
    subst Few (sym x.2) (record { list = few.0; first = few.1; second = few.2 })

module _ (q : ℕ) (f g : List ℕ) (ok : Accepted f g) (w : List ℕ) (r : Reached (straight (inputs g)) (inputs g) 0 w) where
  abbrev pair : Option Pair
  pair = first_dead (inputs g) q f g w

  -- where it agrees, what is found would be dead
  agrees_none : (o : Option Pair) → pair ≡ o → agrees q f g w ≡ true → is_none (found o) ≡ true
  unfolding completions In found
  agrees_none None is e = refl
  agrees_none (Some p) is e =
      absurd (false≢true (sym (never_agrees q f g ok 0 w r (found_dead (inputs g) q f g w p is) w (inl refl)) ∙ e))

  -- and where it does not, a dead pair exists
  disagrees_some : agrees q f g w ≡ false → is_none (found pair) ≡ false
  unfolding found
  disagrees_some e = ap (λ (o : Option Pair). is_none (found o)) (first_exists_dead (inputs g) q f g w (whole_dead q f g ok w r e)).1

  pub agrees_found : agrees q f g w ≡ is_none (found pair)
  agrees_found =
      ⊎_elim (λ (e : agrees q f g w ≡ true). e ∙ sym (agrees_none pair refl e)) (λ (e : agrees q f g w ≡ false). e ∙ sym (disagrees_some e)) (decide (agrees q f g w))
