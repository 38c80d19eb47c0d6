-- Choice rules: which choice may follow which, and every way to go on, in order. A later rule (barred inputs, tied inputs)
-- is another value of `Rule`; the laws are proved over any.
use Rattle.std.specs.Prelude.{ℕ, zero, suc, Bool, true, false, ◌&&◌, ◌||◌, ltb, eqb}
use mathlib.Core.List.{List, [], ◌∷◌, ◌++◌, flat_map}
use Rattle.rules.specs.Lists.{filter, some_in}

-- a rule: the choice bytes in their order, and whether byte b may follow the choices w made so far
pub record Rule : Type 0 where
  pub bytes : List ℕ
  pub may : List ℕ → ℕ → Bool

-- one choice more
infixl 65 ◌adding◌
abbrev pub ◌adding◌ : List ℕ → ℕ → List ℕ
w adding b = w ++ (b ∷ [])

-- the choices that may follow w, in order
abbrev pub next : Rule → List ℕ → List ℕ
next R w = filter (R.may w) R.bytes

-- every way to add k choices to w, in order: by the next choice, then by the one after it, and so on
unfoldable pub completions : Rule → ℕ → List ℕ → List (List ℕ)
unfolding flat_map
completions R zero w = w ∷ []
completions R (suc k) w = flat_map (λ b. completions R k (w adding b)) (next R w)

-- whether the choices r may follow w, one after the other
unfoldable pub follows : Rule → List ℕ → List ℕ → Bool
follows R w [] = true
follows R w (b ∷ r) = some_in (eqb b) R.bytes && R.may w b && follows R (w adding b) r

-- w comes before v: at the first place where they differ it has the choice of the lower rank
unfoldable pub before : (ℕ → ℕ) → List ℕ → List ℕ → Bool
before rank [] v = false
before rank (a ∷ w) [] = false
before rank (a ∷ w) (b ∷ v) = ltb (rank a) (rank b) || (eqb a b && before rank w v)
