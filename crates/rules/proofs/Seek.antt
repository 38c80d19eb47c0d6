-- What the one gives, else the other; and a loop over 0, 1, .., m − 1 that looks for the first number that gives something: what
-- remains decides.
use Prim.Native.Nat.{ℕ, suc, ◌+◌, ◌-◌, ◌≤◌, ◌<◌}
use mathlib.Core.Path.{◌≡◌, refl, sym, ap, ◌∙◌}
use mathlib.Core.Bool.{Bool, true, false, cond}
use mathlib.Core.List.{List, [], ◌∷◌, map}
use Rattle.std.specs.declared.option.Option.{Option}
use Rattle.std.specs.declared.option.Option.TheVariants.{None, Some}
use native.Mathlib.Nat.{sub-zero}
use native.Mathlib.Numerals.{add-one}
use native.Mathlib.Omega.{arith}
use Rattle.rules.specs.Lists.{run, upto, first}
use Rattle.rules.proofs.Lists.{◌else◌, first_some}

-- what the one gives, else the other
module _ {A : Type 0} where
  pub else_some : (o r : Option A) (x : A) → o ≡ Some x → (o else r) ≡ o
  unfolding ◌else◌
  else_some o r x e = ap (λ (o : Option A). o else r) e ∙ sym e

  pub else_none : (o r : Option A) → o ≡ None → (o else r) ≡ r
  unfolding ◌else◌
  else_none o r e = ap (λ (o : Option A). o else r) e

  pub else_nothing : (o : Option A) → (o else None) ≡ o
  unfolding ◌else◌
  else_nothing None = refl
  else_nothing (Some x) = refl

-- the first of a list mapped, as the first that gives something
pub first_given : {A B : Type 0} (t : B → Bool) (f : A → B) (l : List A) → first t (map f l) ≡ first_some (λ x. cond (t (f x)) (Some (f x)) None) l
unfolding first first_some ◌else◌
first_given t f [] = refl
first_given t f (x ∷ l) =
    elim (t (f x)) as (λ b. cond b (Some (f x)) (first t (map f l)) ≡ (cond b (Some (f x)) None else first_some (λ x. cond (t (f x)) (Some (f x)) None) l)) [
      | true ↦ refl
      | false ↦ first_given t f l
    ]

run_step : (v m : ℕ) → v < m → run v (m - v) ≡ v ∷ run (v + 1) (m - (v + 1))
unfolding run
run_step v m h = ap (run v) more ∙ ap (λ (k : ℕ). v ∷ run k (m - (v + 1))) (sym (add-one v))
  where
    more : m - v ≡ suc (m - (v + 1))
    more = omega arith

module _ {B : Type 0} (h : ℕ → Option B) (m : ℕ) where
  -- the loop has come to v, and nothing was given
  pub record Seek (v : ℕ) : Type 0 where
    pub within : v ≤ m
    pub rest : first_some h (upto m) ≡ first_some h (run v (m - v))

  pub seek_starts : Seek 0
  seek_starts = record { within = omega arith; rest = ap (λ (k : ℕ). first_some h (run 0 k)) (sym (sub-zero m)) }

  module _ (v : ℕ) (s : Seek v) where
    step : v < m → first_some h (upto m) ≡ (h v else first_some h (run (v + 1) (m - (v + 1))))
    unfolding first_some
    step l = s.rest ∙ ap (first_some h) (run_step v m l)

    pub seek_found : v < m → (x : B) → h v ≡ Some x → first_some h (upto m) ≡ h v
    seek_found l x e = step l ∙ else_some (h v) _ x e

    pub seek_goes : v < m → h v ≡ None → Seek (v + 1)
    seek_goes l e = record { within = omega arith; rest = step l ∙ else_none (h v) _ e }

    pub seek_ends : m ≤ v → first_some h (upto m) ≡ None
    unfolding run first_some
    seek_ends l = s.rest ∙ ap (λ (k : ℕ). first_some h (run v k)) (none_left v m l)
      where
        none_left : (v m : ℕ) → m ≤ v → m - v ≡ 0
        none_left v m l = omega arith
