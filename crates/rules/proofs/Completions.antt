-- Every way to go on, under any rule: the completions of w are exactly w with choices added that may follow one after the other.
use Prim.Native.Nat.{ℕ, zero, suc, ◌+◌}
use mathlib.Core.Path.{◌≡◌, refl, sym, ap, ◌∙◌, subst}
use mathlib.Core.Bool.{Bool, true, ◌&&◌, and_assoc}
use mathlib.Core.List.{List, [], ◌∷◌, ◌++◌, append-nil, append_assoc}
use mathlib.Core.Logic.{inl, inr}
use borrow.Author.Tests.{eqb-true, eq-eqb}
use lib.Dec.{eqb}
use lib.ListN.{length, length-append}
use Rattle.bits.proofs.Tests.{both, both_left, both_right}
use Rattle.rules.specs.Lists.{some_in}
use Rattle.rules.specs.Rules.{Rule, next, completions, follows, ◌adding◌}
use Rattle.rules.proofs.Lists.{In, in_flat, flat_in, in_filter, filter_in, some_at, some_if}

-- a choice more and then r is w followed by both
pub adding_append : (w : List ℕ) (b : ℕ) (r : List ℕ) → w adding b ++ r ≡ w ++ (b ∷ r)
adding_append w b r = append_assoc w (b ∷ []) r

module _ (R : Rule) where
  -- what may follow w: one of the bytes, which the rule lets follow
  pub next_may : (w : List ℕ) (b : ℕ) → In b (next R w) → some_in (eqb b) R.bytes && R.may w b ≡ true
  next_may w b i = let f = filter_in (R.may w) b R.bytes i in both (some_if (eqb b) b R.bytes f.0 (eq-eqb b b refl)) f.1

  pub may_next : (w : List ℕ) (b : ℕ) → some_in (eqb b) R.bytes && R.may w b ≡ true → In b (next R w)
  may_next w b p =
      let s = some_at (eqb b) R.bytes (both_left (some_in (eqb b) R.bytes) (R.may w b) p) in
      in_filter (R.may w) b R.bytes (subst (λ (a : ℕ). In a R.bytes) (sym (eqb-true b s.0 s.2)) s.1) (both_right (some_in (eqb b) R.bytes) (R.may w b) p)

  -- a completion is w with k choices added, each of which may follow
  pub completion_extends : (k : ℕ) (w v : List ℕ) → In v (completions R k w) → (r : List ℕ) × (v ≡ w ++ r) × (length r ≡ k) × (follows R w r ≡ true)
  unfolding In completions follows
  completion_extends zero w v (inr i) = elim i [ ]
  completion_extends zero w v (inl e) = ([], e ∙ sym (append-nil w), refl, refl)
  completion_extends (suc k) w v i =
      let f = flat_in (λ b. completions R k (w adding b)) v (next R w) i in
      let c = completion_extends k (w adding f.0) v f.2 in
      (f.0 ∷ c.0, c.1 ∙ adding_append w f.0 c.0, ap suc c.2, both (next_may w f.0 f.1) c.3)

  -- and every such list is one
  pub completion_in : (w r : List ℕ) → follows R w r ≡ true → In (w ++ r) (completions R (length r) w)
  unfolding In completions follows
  completion_in w [] p = inl (append-nil w)
  completion_in w (b ∷ r) p =
      in_flat (λ b. completions R (length r) (w adding b)) b (w ++ (b ∷ r)) (next R w)
      (may_next w b (both_left (some_in (eqb b) R.bytes && R.may w b) (follows R (w adding b) r) p))
      (subst (λ (v : List ℕ). In v (completions R (length r) (w adding b))) (adding_append w b r)
      (completion_in (w adding b) r (both_right (some_in (eqb b) R.bytes && R.may w b) (follows R (w adding b) r) p)))

  -- choices may follow if the first of them may, and the others may follow those
  pub follows_append : (w r s : List ℕ) → follows R w (r ++ s) ≡ follows R w r && follows R (w ++ r) s
  unfolding follows
  follows_append w [] s = ap (λ (v : List ℕ). follows R v s) (sym (append-nil w))
  follows_append w (b ∷ r) s =
      ap (λ (x : Bool). some_in (eqb b) R.bytes && R.may w b && x) (follows_append (w adding b) r s ∙ ap (λ (v : List ℕ). follows R (w adding b) r && follows R v s) (adding_append w b r))
      ∙ sym (and_assoc (some_in (eqb b) R.bytes && R.may w b) (follows R (w adding b) r) (follows R (w ++ (b ∷ r)) s))

  -- so it is longer by k
  pub completions_length : (k : ℕ) (w v : List ℕ) → In v (completions R k w) → length v ≡ length w + k
  completions_length k w v i = let c = completion_extends k w v i in ap length c.1 ∙ length-append w c.0 ∙ ap (λ (m : ℕ). length w + m) c.2
