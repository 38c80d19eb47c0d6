-- The smallest number that passes. The idea: what was looked for either is nowhere or passes with nothing below it, and only one
-- answer is so; each law shows this of its answer. The smallest of two tests is the lesser of theirs, so that a walk over a list
-- can keep the least so far.
use Prim.Native.Nat.{ℕ, zero, suc, ◌%◌, ◌^◌, ◌≤◌, ◌<◌}
use mathlib.Core.Path.{◌≡◌, refl, sym, ap, ap₂, ◌∙◌, subst}
use mathlib.Core.Bool.{Bool, true, false, cond, ◌||◌, false≢true}
use Rattle.std.specs.declared.option.Option.{Option}
use Rattle.std.specs.declared.option.Option.TheVariants.{None, Some}
use mathlib.Core.Logic.{⊎_elim}
use native.Mathlib.Nat.{le_refl, le_step, le_trans, mod-lt, le_antisymm}
use native.Mathlib.Omega.{arith}
use lib.Pow.{pow_mono, pow_pos}
use Rattle.bits.specs.Bits.{any, or_next, smallest, IsSmallest, or_zero, lesser}
use Rattle.bits.proofs.Tests.{or_left, or_right, below_or_not}
use Rattle.bits.proofs.Below.{below_suc, any_at, any_if, any_none, not_at}

-- ---- what an answer has to be

abbrev pub Means : ℕ → (ℕ → Bool) → Option ℕ → Type 0
Means n p None = (k : ℕ) → k < n → p k ≡ false
Means n p (Some x) = IsSmallest n p x

module _ (p : ℕ → Bool) where
  pub smallest_means : (n : ℕ) → Means n p (smallest n p)
  unfolding smallest or_next
  smallest_means zero = λ k h. absurd (omega (arith, h))
  smallest_means (suc n) = go (smallest n p) (p n) refl (smallest_means n)
    where
      go : (o : Option ℕ) (t : Bool) → p n ≡ t → Means n p o → Means (suc n) p (or_next o (cond t (Some n) None))
      go None true e m = record { within = le_refl (suc n); passes = e; none_below = m }
      go None false e m = λ k h. ⊎_elim (λ (q : k ≡ n). ap p q ∙ e) (λ (l : k < n). m k l) (below_suc h)
      go (Some x) t e m = record { within = le_step m.within; passes = m.passes; none_below = m.none_below }

  -- and only one answer is so
  means_one : (n : ℕ) (a b : Option ℕ) → Means n p a → Means n p b → a ≡ b
  means_one n None None h k = refl
  means_one n None (Some y) h k = absurd (false≢true (sym (h y k.within) ∙ k.passes))
  means_one n (Some x) None h k = absurd (false≢true (sym (k x h.within) ∙ h.passes))
  means_one n (Some x) (Some y) h k = ap Some (le_antisymm (not_above x y h k) (not_above y x k h))
    where
      not_above : (x y : ℕ) → IsSmallest n p x → IsSmallest n p y → x ≤ y
      not_above x y h k = ⊎_elim (λ (l : y < x). absurd (false≢true (sym (h.none_below y l) ∙ k.passes))) (λ l. l) (below_or_not y x)

  pub smallest_by : (n : ℕ) (o : Option ℕ) → Means n p o → smallest n p ≡ o
  smallest_by n o m = means_one n (smallest n p) o (smallest_means n) m

  -- nothing is found exactly where nothing passes
  pub smallest_none : (n : ℕ) → any n p ≡ false → smallest n p ≡ None
  smallest_none n e = smallest_by n None (not_at p n e)

  pub smallest_some : (n : ℕ) → any n p ≡ true → IsSmallest n p (or_zero (smallest n p))
  unfolding or_zero
  smallest_some n e = go (smallest n p) (smallest_means n)
    where
      go : (o : Option ℕ) → Means n p o → IsSmallest n p (or_zero o)
      go None m = let w = any_at p n e in absurd (false≢true (sym (m w.0 w.1) ∙ w.2))
      go (Some x) m = m

  -- and what was found tells whether any passes
  pub found_any : (n x : ℕ) → smallest n p ≡ Some x → any n p ≡ true
  found_any n x e = let m = subst (Means n p) e (smallest_means n) in any_if p n x m.within m.passes

  pub none_any : (n : ℕ) → smallest n p ≡ None → any n p ≡ false
  none_any n e = let m = subst (Means n p) e (smallest_means n) in any_none p n (λ k h q. false≢true (sym (m k h) ∙ q))

-- tests that say the same below n have the same smallest
pub smallest_same : (p q : ℕ → Bool) (n : ℕ) → ((k : ℕ) → k < n → p k ≡ q k) → smallest n p ≡ smallest n q
unfolding smallest
smallest_same p q zero f = refl
smallest_same p q (suc n) f = ap₂ (λ (o : Option ℕ) (t : Bool). or_next o (cond t (Some n) None)) (smallest_same p q n (λ k h. f k (le_step h))) (f n (le_refl (suc n)))

-- ---- the lesser of two

pub lesser_none : (a : Option ℕ) → lesser a None ≡ a
unfolding lesser
lesser_none None = refl
lesser_none (Some x) = refl

pub lesser_assoc : (a b c : Option ℕ) → lesser (lesser a b) c ≡ lesser a (lesser b c)
unfolding lesser
lesser_assoc None b c = refl
lesser_assoc (Some x) None c = refl
lesser_assoc (Some x) (Some y) None = refl
lesser_assoc (Some x) (Some y) (Some z) = ap Some (omega arith)

-- of two tests, one of which passes
pub smallest_or : (p q : ℕ → Bool) (n : ℕ) → smallest n (λ k. p k || q k) ≡ lesser (smallest n p) (smallest n q)
unfolding lesser
smallest_or p q n = smallest_by (λ k. p k || q k) n _ (go (smallest n p) (smallest n q) (smallest_means p n) (smallest_means q n))
  where
    failing : (x : ℕ) → p x ≡ false → q x ≡ false → p x || q x ≡ false
    failing x a b = ap₂ ◌||◌ a b

    go : (a b : Option ℕ) → Means n p a → Means n q b → Means n (λ k. p k || q k) (lesser a b)
    go None None h k = λ x l. failing x (h x l) (k x l)
    go None (Some y) h k = record { within = k.within; passes = or_right (p y) k.passes; none_below = λ z l. failing z (h z (le_trans (le_step l) k.within)) (k.none_below z l) }
    go (Some x) None h k = record { within = h.within; passes = or_left (q x) h.passes; none_below = λ z l. failing z (h.none_below z l) (k z (le_trans (le_step l) h.within)) }
    go (Some x) (Some y) h k =
        ⊎_elim
        (λ (l : x < y). subst (IsSmallest n (λ k. p k || q k)) (omega arith) (record { within = h.within; passes = or_left (q x) h.passes; none_below = λ z m. failing z (h.none_below z m) (k.none_below z (omega arith)) }))
        (λ (l : y ≤ x). subst (IsSmallest n (λ k. p k || q k)) (omega arith) (record { within = k.within; passes = or_right (p y) k.passes; none_below = λ z m. failing z (h.none_below z (omega arith)) (k.none_below z m) }))
        (below_or_not x y)

-- ---- a test that looks at n bits alone has its smallest below 2^n

pub smallest_narrow : (p : ℕ → Bool) (n m : ℕ) → n ≤ m → ((x : ℕ) → p x ≡ p (x % 2 ^ n)) → smallest (2 ^ m) p ≡ smallest (2 ^ n) p
smallest_narrow p n m small low = smallest_by p (2 ^ m) (smallest (2 ^ n) p) (go (smallest (2 ^ n) p) (smallest_means p (2 ^ n)))
  where
    go : (o : Option ℕ) → Means (2 ^ n) p o → Means (2 ^ m) p o
    go None h = λ k _. low k ∙ h (k % 2 ^ n) (mod-lt k (pow_pos n))
    go (Some x) h = record { within = le_trans h.within (pow_mono small); passes = h.passes; none_below = h.none_below }
