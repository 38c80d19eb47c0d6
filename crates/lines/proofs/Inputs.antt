-- The input, cut: a part that ends where the input does is as good as one that would end later.
use Prim.Native.Nat.{ℕ, ◌-◌, min}
use mathlib.Core.Path.{◌≡◌, refl, sym, ap, ◌∙◌}
use mathlib.Core.Bool.{Bool, true, false}
use mathlib.Core.List.{List}
use native.Mathlib.Omega.{arith}
use borrow.Author.Tests.{leb-true, leb-false}
use lib.Dec.{leb}
use lib.ListN.{length, take, drop, length-drop, drop_of_length-le}
use lib.Seq.{take_all}

module _ (s : List ℕ) (e k : ℕ) (is : k ≡ min e (length s)) where
  pub cut_take : take k s ≡ take e s
  cut_take = go (leb e (length s)) refl
    where
      go : (t : Bool) → leb e (length s) ≡ t → take k s ≡ take e s
      go true q = let h = leb-true e (length s) q in let same : k ≡ e = omega (arith, h, is) in ap (λ (k : ℕ). take k s) same
      go false q = let h = leb-false e (length s) q in take_all k s (omega (arith, h, is)) ∙ sym (take_all e s (omega (arith, h)))

  pub cut_drop : take (length s - k) (drop k s) ≡ drop e s
  cut_drop = take_all (length s - k) (drop k s) (omega (arith, length-drop k s)) ∙ go (leb e (length s)) refl
    where
      go : (t : Bool) → leb e (length s) ≡ t → drop k s ≡ drop e s
      go true q = let h = leb-true e (length s) q in let same : k ≡ e = omega (arith, h, is) in ap (λ (k : ℕ). drop k s) same
      go false q = let h = leb-false e (length s) q in drop_of_length-le s {i = k} (omega (arith, h, is)) ∙ sym (drop_of_length-le s {i = e} (omega (arith, h)))
