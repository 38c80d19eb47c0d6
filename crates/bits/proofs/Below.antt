-- Tests of every number below a bound: `every`, `any` and `count` say what they seem to.
use Prim.Native.Nat.{ℕ, zero, suc, ◌+◌, ◌≤◌, ◌<◌}
use mathlib.Core.Path.{◌≡◌, refl, sym, ap, ap₂, ◌∙◌}
use mathlib.Core.Bool.{Bool, true, false, cond, ◌&&◌, ◌||◌, false≢true, or-false, or_assoc}
use mathlib.Core.Logic.{◌⊎◌, ⊎_elim}
use native.Mathlib.Nat.{le_refl, le_step, le_trans, add-zero, add-suc, add_assoc, le_of_suc-le-suc, not-suc-le-zero, eq-or-lt_of_le}
use native.Mathlib.Omega.{arith}
use borrow.Author.Tests.{ltb-true, lt-ltb}
use lib.Dec.{ltb}
use Rattle.bits.specs.Bits.{every, any, count}
use Rattle.bits.proofs.Tests.{both_left, both_right, both, either, or_left, or_right, same_test, not_passed}

-- ---- below a bound

-- below the next bound is this one, or below this one
pub below_suc : {k n : ℕ} → k < suc n → (k ≡ n) ⊎ (k < n)
below_suc h = eq-or-lt_of_le (le_of_suc-le-suc h)

module _ (p : ℕ → Bool) where
  pub every_at : (n : ℕ) → every n p ≡ true → (k : ℕ) → k < n → p k ≡ true
  unfolding every
  every_at zero e k h = absurd (not-suc-le-zero h)
  every_at (suc n) e k h =
      ⊎_elim (λ (q : k ≡ n). ap p q ∙ both_right (every n p) (p n) e)
      (λ (l : k < n). every_at n (both_left (every n p) (p n) e) k l)
      (below_suc h)

  pub every_if : (n : ℕ) → ((k : ℕ) → k < n → p k ≡ true) → every n p ≡ true
  unfolding every
  every_if zero f = refl
  every_if (suc n) f = both (every_if n (λ k h. f k (le_step h))) (f n (le_refl (suc n)))

  pub any_at : (n : ℕ) → any n p ≡ true → (k : ℕ) × (k < n) × (p k ≡ true)
  unfolding any
  any_at zero e = absurd (false≢true e)
  any_at (suc n) e =
      ⊎_elim (λ (q : any n p ≡ true). let w = any_at n q in (w.0, le_step w.1, w.2))
      (λ (q : p n ≡ true). (n, le_refl (suc n), q))
      (either (any n p) (p n) e)

  pub any_if : (n k : ℕ) → k < n → p k ≡ true → any n p ≡ true
  unfolding any
  any_if zero k h e = absurd (not-suc-le-zero h)
  any_if (suc n) k h e =
      ⊎_elim (λ (q : k ≡ n). or_right (any n p) (sym (ap p q) ∙ e))
      (λ (l : k < n). or_left (p n) (any_if n k l e))
      (below_suc h)

  pub any_none : (n : ℕ) → ((k : ℕ) → k < n → p k ≡ true → ⊥) → any n p ≡ false
  any_none n f = not_passed (any n p) (λ e. let w = any_at n e in f w.0 w.1 w.2)

  pub not_at : (n : ℕ) → any n p ≡ false → (k : ℕ) → k < n → p k ≡ false
  not_at n e k h = not_passed (p k) (λ q. false≢true (sym e ∙ any_if n k h q))

  -- the numbers below n, and the m numbers from there on
  pub any_add : (n m : ℕ) → any (n + m) p ≡ any n p || any m (λ k. p (n + k))
  unfolding any
  any_add n zero = rw add-zero (sym (or-false (any n p)))
  any_add n (suc m) = rw add-suc (ap (λ (t : Bool). t || p (n + m)) (any_add n m) ∙ or_assoc (any n p) (any m (λ k. p (n + k))) (p (n + m)))

  -- no more numbers pass than there are
  pub count_le : (n : ℕ) → count n p ≤ n
  unfolding count
  count_le zero = le_refl 0
  count_le (suc n) = elim (p n) as (λ t. count n p + cond t 1 0 ≤ suc n) [ true ↦ omega (arith, count_le n) | false ↦ omega (arith, count_le n) ]

  -- the same count, from the bottom
  pub count_low : (n : ℕ) → count (suc n) p ≡ cond (p 0) 1 0 + count n (λ k. p (suc k))
  unfolding count
  count_low zero = omega arith
  count_low (suc n) = ap (λ (c : ℕ). c + cond (p (suc n)) 1 0) (count_low n) ∙ add_assoc (cond (p 0) 1 0) (count n (λ k. p (suc k))) (cond (p (suc n)) 1 0)

-- a test that asks for a number below n too, under a higher bound
pub any_under : (p : ℕ → Bool) (n m : ℕ) → n ≤ m → any m (λ k. ltb k n && p k) ≡ any n p
any_under p n m h =
    same_test (any m (λ k. ltb k n && p k)) (any n p)
    (λ e. let w = any_at (λ k. ltb k n && p k) m e in any_if p n w.0 (ltb-true w.0 n (both_left (ltb w.0 n) (p w.0) w.2)) (both_right (ltb w.0 n) (p w.0) w.2))
    (λ e. let w = any_at p n e in any_if (λ k. ltb k n && p k) m w.0 (le_trans w.1 h) (both (lt-ltb w.0 n w.1) w.2))

pub any_never : (n : ℕ) → any n (λ k. false) ≡ false
any_never n = any_none (λ k. false) n (λ k h e. false≢true e)

module _ (p q : ℕ → Bool) where
  -- one of two tests passes somewhere exactly when one of them does
  pub any_or : (n : ℕ) → any n p || any n q ≡ any n (λ k. p k || q k)
  any_or n =
      same_test _ _
      (λ e.
      ⊎_elim (λ (h : any n p ≡ true). let w = any_at p n h in any_if (λ k. p k || q k) n w.0 w.1 (or_left (q w.0) w.2))
      (λ (h : any n q ≡ true). let w = any_at q n h in any_if (λ k. p k || q k) n w.0 w.1 (or_right (p w.0) w.2))
      (either (any n p) (any n q) e))
      (λ e.
      let w = any_at (λ k. p k || q k) n e in
      ⊎_elim (λ (h : p w.0 ≡ true). or_left (any n q) (any_if p n w.0 w.1 h))
      (λ (h : q w.0 ≡ true). or_right (any n p) (any_if q n w.0 w.1 h))
      (either (p w.0) (q w.0) w.2))

  -- tests that say the same below n are passed alike
  pub any_same : (n : ℕ) → ((k : ℕ) → k < n → p k ≡ q k) → any n p ≡ any n q
  any_same n f =
      same_test (any n p) (any n q)
      (λ e. let w = any_at p n e in any_if q n w.0 w.1 (sym (f w.0 w.1) ∙ w.2))
      (λ e. let w = any_at q n e in any_if p n w.0 w.1 (f w.0 w.1 ∙ w.2))

  pub count_same : (n : ℕ) → ((k : ℕ) → k < n → p k ≡ q k) → count n p ≡ count n q
  unfolding count
  count_same zero f = refl
  count_same (suc n) f = ap₂ (λ (c : ℕ) (t : Bool). c + cond t 1 0) (count_same n (λ k h. f k (le_step h))) (f n (le_refl (suc n)))

-- where only numbers below n pass, no more than n do
pub count_under : (p : ℕ → Bool) (m n : ℕ) → ((k : ℕ) → k < m → p k ≡ true → k < n) → count m p ≤ n
unfolding count
count_under p zero n f = omega arith
count_under p (suc m) n f = go (p m) refl (count_under p m n (λ k h. f k (le_step h)))
  where
    go : (t : Bool) → p m ≡ t → count m p ≤ n → count m p + cond t 1 0 ≤ n
    go true e h = omega (arith, f m (le_refl (suc m)) e, count_le p m)
    go false e h = omega arith

-- tests that no number passes both of: together no more pass than there are
pub count_apart : (p q : ℕ → Bool) (n : ℕ) → ((k : ℕ) → k < n → p k ≡ true → q k ≡ true → ⊥) → count n p + count n q ≤ n
unfolding count
count_apart p q zero f = omega arith
count_apart p q (suc n) f = go (p n) (q n) refl refl (count_apart p q n (λ k h. f k (le_step h)))
  where
    go : (t u : Bool) → p n ≡ t → q n ≡ u → count n p + count n q ≤ n → count n p + cond t 1 0 + (count n q + cond u 1 0) ≤ suc n
    go true true e d h = absurd (f n (le_refl (suc n)) e d)
    go true false e d h = omega arith
    go false true e d h = omega arith
    go false false e d h = omega arith

-- every number passes
pub count_all : (n : ℕ) → count n (λ j. true) ≡ n
unfolding count
count_all zero = refl
count_all (suc n) = omega (arith, count_all n)

-- where some number is counted, one passes
pub count_at : (p : ℕ → Bool) (n : ℕ) → 0 < count n p → (j : ℕ) × (j < n) × (p j ≡ true)
unfolding count
count_at p zero h = absurd (not-suc-le-zero h)
count_at p (suc n) h = go (p n) refl h (λ h. count_at p n h)
  where
    go : (t : Bool) → p n ≡ t → 0 < count n p + cond t 1 0 → (0 < count n p → (j : ℕ) × (j < n) × (p j ≡ true)) → (j : ℕ) × (j < suc n) × (p j ≡ true)
    go true e h f = (n, le_refl (suc n), e)
    go false e h f = let w = f (omega arith) in (w.0, le_step w.1, w.2)

-- a test that fails at i alone, where another passes, counts one less
pub count_less : (p q : ℕ → Bool) (n i : ℕ) → i < n → p i ≡ true → q i ≡ false → ((j : ℕ) → (i ≡ j → ⊥) → q j ≡ p j) → suc (count n q) ≡ count n p
unfolding count
count_less p q zero i h e d f = absurd (not-suc-le-zero h)
count_less p q (suc n) i h e d f =
    ⊎_elim (λ (s : i ≡ n). let c = count_same q p n (λ j l. f j (λ r. omega arith)) in simp (ap q (sym s) ∙ d, ap p (sym s) ∙ e) (omega arith))
    (λ (l : i < n). simp (f n (λ r. omega arith)) (omega (arith, count_less p q n i l e d f)))
    (below_suc h)
