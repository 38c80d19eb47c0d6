-- Cutting off. The idea: a test of death is true only of choices from which no completion passes, and is true of whole ways
-- that do not pass. A walk that drops dead choices then finds exactly what passes, in the same order.
use Prim.Native.Nat.{ℕ, zero, suc, ◌+◌}
use mathlib.Core.Path.{◌≡◌, refl, sym, ap, ◌∙◌}
use mathlib.Core.Bool.{Bool, true, false, cond, true≢false}
use mathlib.Core.List.{List, [], ◌∷◌, flat_map}
use Rattle.std.specs.declared.option.Option.TheVariants.{None}
use mathlib.Core.Logic.{⊎_elim}
use native.Mathlib.Nat.{add-zero}
use native.Mathlib.Omega.{arith}
use lib.ListN.{length, length-append}
use Rattle.bits.proofs.Tests.{both, decide}
use Rattle.rules.specs.Lists.{filter, first}
use Rattle.rules.specs.Rules.{Rule, next, completions, follows, ◌adding◌}
use Rattle.rules.proofs.Lists.{In, flat_same, filter_none, filter_flat, first_none}
use Rattle.rules.proofs.Completions.{next_may, follows_append, completion_extends, completions_length}

-- ---- the walk, under a rule, past what is dead: every whole way met

module _ (R : Rule) (dead : List ℕ → Bool) where
  unfoldable pub gather : ℕ → List ℕ → List (List ℕ)
  unfolding flat_map
  gather zero w = cond (dead w) [] (w ∷ [])
  gather (suc k) w = cond (dead w) [] (flat_map (λ b. gather k (w adding b)) (next R w))

module _ (R : Rule) (n : ℕ) where
  -- choices w that the rule allows, with k of the n to come
  pub record Reached (k : ℕ) (w : List ℕ) : Type 0 where
    pub total : k + length w ≡ n
    pub allowed : follows R [] w ≡ true

  -- before any choice, all are to come
  pub reached_start : Reached n []
  unfolding follows
  reached_start = record { total = add-zero n; allowed = refl }

  -- one choice more that may follow
  pub reached_next : (k : ℕ) (w : List ℕ) (b : ℕ) → Reached (suc k) w → In b (next R w) → Reached k (w adding b)
  unfolding follows
  reached_next k w b r i = record {
    total = omega (arith, length-append w (b ∷ []));
    allowed = follows_append R [] w (b ∷ []) ∙ both r.allowed (both (next_may R w b i) refl);
  }

  -- a completion of choices that the rule allows is a whole way that it allows
  pub whole_reached : (k : ℕ) (w : List ℕ) → Reached k w → (v : List ℕ) → In v (completions R k w) → Reached 0 v
  whole_reached k w r v i =
      let c = completion_extends R k w v i in
      record {
        total = omega (arith, r.total, completions_length R k w v i);
        allowed = ap (follows R []) c.1 ∙ follows_append R [] w c.0 ∙ both r.allowed c.3;
      }

  pub start_reached : (v : List ℕ) → In v (completions R n []) → Reached 0 v
  start_reached = whole_reached n [] reached_start

  module _ (passes dead : List ℕ → Bool) where
    -- what a test of death needs: from dead choices nothing passes, and a whole way that does not pass is dead
    pub record Death : Type 0 where
      pub dies : (k : ℕ) (w : List ℕ) → Reached k w → dead w ≡ true → (v : List ℕ) → In v (completions R k w) → passes v ≡ false
      pub shows : (w : List ℕ) → Reached 0 w → passes w ≡ false → dead w ≡ true

    module _ (d : Death) where
      -- of dead choices nothing is lost, and a whole way that is not dead passes
      pub cut_first : (k : ℕ) (w : List ℕ) → Reached k w → dead w ≡ true → first passes (completions R k w) ≡ None
      cut_first k w r p = first_none passes (completions R k w) (d.dies k w r p)

      pub cut_filter : (k : ℕ) (w : List ℕ) → Reached k w → dead w ≡ true → filter passes (completions R k w) ≡ []
      cut_filter k w r p = filter_none passes (completions R k w) (d.dies k w r p)

      pub whole_passes : (w : List ℕ) → Reached 0 w → dead w ≡ false → passes w ≡ true
      whole_passes w r e = ⊎_elim (λ p. p) (λ (p : passes w ≡ false). absurd (true≢false (sym (d.shows w r p) ∙ e))) (decide (passes w))

      -- one step of the walk: nothing where w is dead, and else what it meets further on
      past : (k : ℕ) (w : List ℕ) → Reached k w → (met : List (List ℕ)) → (dead w ≡ false → met ≡ filter passes (completions R k w))
          → cond (dead w) [] met ≡ filter passes (completions R k w)
      past k w r met h = ⊎_elim (λ (p : dead w ≡ true). rw p (sym (cut_filter k w r p))) (λ (p : dead w ≡ false). rw p (h p)) (decide (dead w))

      -- the walk meets what passes, and nothing else
      pub gather_filter : (k : ℕ) (w : List ℕ) → Reached k w → gather R dead k w ≡ filter passes (completions R k w)
      unfolding gather completions filter
      gather_filter zero w r = past zero w r (w ∷ []) (λ p. ap (λ (b : Bool). cond b (w ∷ []) []) (sym (whole_passes w r p)))
      gather_filter (suc k) w r =
          past (suc k) w r (flat_map (λ b. gather R dead k (w adding b)) (next R w))
          (λ _.
          flat_same (λ b. gather R dead k (w adding b)) (λ b. filter passes (completions R k (w adding b))) (next R w) (λ b i. gather_filter k (w adding b) (reached_next k w b r i))
          ∙ sym (filter_flat passes (λ b. completions R k (w adding b)) (next R w)))
