-- The order of the completions. The idea: where the choice bytes stand in order of their rank, the completions stand in the
-- order `before`; nothing is before itself, so each stands once.
use Prim.Native.Nat.{ℕ, zero, suc, ◌+◌}
use mathlib.Core.Path.{◌≡◌, refl, sym, ap, ap₂, ◌∙◌, subst}
use mathlib.Core.Bool.{Bool, true, false, cond, ◌||◌, ◌&&◌, false≢true, and-false}
use mathlib.Core.List.{List, [], ◌∷◌, ◌++◌, map, flat_map}
use mathlib.Core.Logic.{inl, inr, ⊎_elim}
use native.Mathlib.Nat.{le_refl, zero-add}
use borrow.Author.Tests.{eq-eqb, le-ltb}
use lib.Dec.{ltb, eqb}
use lib.ListN.{length}
use Rattle.bits.proofs.Tests.{both, or_left, or_right, not_passed}
use Rattle.rules.specs.Lists.{filter, some_in, count_in, same, times}
use Rattle.rules.specs.Rules.{Rule, next, completions, follows, before, ◌adding◌}
use Rattle.rules.proofs.Lists.{In, in_either, map_in, flat_in, filter_in, some_if, count_none, same_is, same_self}
use Rattle.rules.proofs.Completions.{adding_append, completion_extends, completion_in}

-- ---- lists in an order

-- each element stands before every later one
unfoldable pub Rising : {A : Type 0} → (A → A → Bool) → List A → Type 0
Rising b [] = Unit {0}
Rising {A} b (x ∷ l) = ((y : A) → In y l → b x y ≡ true) × Rising b l

module _ {A : Type 0} (b : A → A → Bool) where
  -- two lists joined rise where each does, and each element of the one stands before each of the other
  pub rising_append : (l m : List A) → Rising b l → Rising b m → ((x y : A) → In x l → In y m → b x y ≡ true) → Rising b (l ++ m)
  unfolding Rising In
  rising_append [] m r s h = s
  rising_append (x ∷ l) m r s h =
      (λ y i. ⊎_elim (λ (j : In y l). r.0 y j) (λ (j : In y m). h x y (inl refl) j) (in_either y l m i), rising_append l m r.1 s (λ z y i. h z y (inr i)))

  -- what is left of a list that rises does
  pub rising_filter : (t : A → Bool) (l : List A) → Rising b l → Rising b (filter t l)
  unfolding Rising filter
  rising_filter t [] r = tt
  rising_filter t (x ∷ l) r =
      elim (t x) as (λ p. Rising b (cond p (x ∷ filter t l) (filter t l))) [
        | true ↦ (λ y i. r.0 y (filter_in t y l i).0, rising_filter t l r.1)
        | false ↦ rising_filter t l r.1
      ]

-- a list made of others, the order of which carries over
module _ {A B : Type 0} (b : A → A → Bool) (c : B → B → Bool) where
  pub rising_map : (f : A → B) → ((x y : A) → b x y ≡ true → c (f x) (f y) ≡ true) → (l : List A) → Rising b l → Rising c (map f l)
  unfolding Rising
  rising_map f h [] r = tt
  rising_map f h (x ∷ l) r =
      (λ y i. let w = map_in f y l i in subst (λ (z : B). c (f x) z ≡ true) (sym w.2) (h x w.0 (r.0 w.0 w.1)), rising_map f h l r.1)

  pub rising_flat : (f : A → List B) → ((x : A) → Rising c (f x)) → ((x y : A) (u v : B) → b x y ≡ true → In u (f x) → In v (f y) → c u v ≡ true)
      → (l : List A) → Rising b l → Rising c (flat_map f l)
  unfolding Rising flat_map
  rising_flat f each across [] r = tt
  rising_flat f each across (x ∷ l) r =
      rising_append c (f x) (flat_map f l) (each x) (rising_flat f each across l r.1)
      (λ u v i j. let w = flat_in f v l j in across x w.0 u v (r.0 w.0 w.1) i w.2)

-- ---- the order of choices

module _ (rank : ℕ → ℕ) where
  -- nothing is before itself
  pub before_self : (w : List ℕ) → before rank w w ≡ false
  unfolding before
  before_self [] = refl
  before_self (a ∷ w) = ap₂ ◌||◌ (le-ltb (rank a) (rank a) (le_refl (rank a))) (ap (λ (p : Bool). eqb a a && p) (before_self w) ∙ and-false (eqb a a))

  -- the choice that follows the same choices decides
  pub before_at : (w : List ℕ) (a b : ℕ) (u v : List ℕ) → ltb (rank a) (rank b) ≡ true → before rank (w ++ (a ∷ u)) (w ++ (b ∷ v)) ≡ true
  unfolding before
  before_at [] a b u v p = or_left (eqb a b && before rank u v) p
  before_at (x ∷ w) a b u v p = or_right (ltb (rank x) (rank x)) (both (eq-eqb x x refl) (before_at w a b u v p))

  -- what stands in order stands once
  pub rising_once : (v : List ℕ) (l : List (List ℕ)) → Rising (before rank) l → times v l ≡ cond (some_in (same v) l) 1 0
  unfolding Rising count_in some_in
  rising_once v [] r = refl
  rising_once v (x ∷ l) r = go (same v x) refl (rising_once v l r.1)
    where
      later : same v x ≡ true → (y : List ℕ) → In y l → same v y ≡ false
      later p y i =
          not_passed (same v y)
          (λ q. false≢true (sym (before_self x) ∙ ap (before rank x) (sym (same_is v x p) ∙ same_is v y q) ∙ r.0 y i))

      go : (p : Bool) → same v x ≡ p → times v l ≡ cond (some_in (same v) l) 1 0 → cond p 1 0 + times v l ≡ cond (p || some_in (same v) l) 1 0
      go true p e = ap (λ (m : ℕ). 1 + m) (count_none (same v) l (later p))
      go false p e = zero-add (times v l) ∙ e

  module _ (R : Rule) (h : Rising (λ a b. ltb (rank a) (rank b)) R.bytes) where
    -- with the choice bytes in order of rank, the completions stand in the order `before`
    pub completions_rise : (k : ℕ) (w : List ℕ) → Rising (before rank) (completions R k w)
    unfolding Rising In completions
    completions_rise zero w = (λ y i. absurd i, tt)
    completions_rise (suc k) w =
        rising_flat (λ a b. ltb (rank a) (rank b)) (before rank) (λ b. completions R k (w adding b)) (λ b. completions_rise k (w adding b))
        (λ a b u v p i j.
        let e = completion_extends R k (w adding a) u i in
        let g = completion_extends R k (w adding b) v j in
        ap₂ (before rank) (e.1 ∙ adding_append w a e.0) (g.1 ∙ adding_append w b g.0) ∙ before_at w a b e.0 g.0 p)
        (next R w) (rising_filter (λ a b. ltb (rank a) (rank b)) (R.may w) R.bytes h)

    -- so every way to go on is among them once
    pub completions_once : (w r : List ℕ) → follows R w r ≡ true → times (w ++ r) (completions R (length r) w) ≡ 1
    completions_once w r p =
        rising_once (w ++ r) (completions R (length r) w) (completions_rise (length r) w)
        ∙ ap {B = ℕ} (λ (b : Bool). cond b 1 0) (some_if (same (w ++ r)) (w ++ r) (completions R (length r) w) (completion_in R w r p) (same_self (w ++ r)))
