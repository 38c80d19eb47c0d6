-- Lists of anything, and tests of their elements: which elements pass, the first that does, and how often one stands in a list.
use Rattle.std.specs.Prelude.{ℕ, zero, suc, ◌+◌, Bool, true, false, cond, ◌&&◌, ◌||◌, List, [], ◌∷◌, eqb}
use Rattle.std.specs.declared.option.Option.{Option}
use Rattle.std.specs.declared.option.Option.TheVariants.{None, Some}

-- 0, 1, .., n − 1, or from a number on, as many as asked
unfoldable pub run : ℕ → ℕ → List ℕ
run from zero = []
run from (suc n) = from ∷ run (suc from) n

abbrev pub upto : ℕ → List ℕ
upto n = run 0 n

module _ {A : Type 0} where
  -- the elements that pass, in their order
  unfoldable pub filter : (A → Bool) → List A → List A
  filter t [] = []
  filter t (x ∷ l) = cond (t x) (x ∷ filter t l) (filter t l)

  -- the first that passes
  unfoldable pub first : (A → Bool) → List A → Option A
  first t [] = None
  first t (x ∷ l) = cond (t x) (Some x) (first t l)

  -- how many come before the first that passes; all of them, if none does
  unfoldable pub passed_over : (A → Bool) → List A → ℕ
  passed_over t [] = 0
  passed_over t (x ∷ l) = cond (t x) 0 (suc (passed_over t l))

  -- whether some element passes, and whether each does
  unfoldable pub some_in : (A → Bool) → List A → Bool
  some_in t [] = false
  some_in t (x ∷ l) = t x || some_in t l

  unfoldable pub each_in : (A → Bool) → List A → Bool
  each_in t [] = true
  each_in t (x ∷ l) = t x && each_in t l

  -- how many pass
  unfoldable pub count_in : (A → Bool) → List A → ℕ
  count_in t [] = 0
  count_in t (x ∷ l) = cond (t x) 1 0 + count_in t l

-- whether two lists of numbers are the same
unfoldable pub same : List ℕ → List ℕ → Bool
same [] [] = true
same [] (b ∷ v) = false
same (a ∷ w) [] = false
same (a ∷ w) (b ∷ v) = eqb a b && same w v

-- how often a list of numbers stands in a list of such lists
abbrev pub times : List ℕ → List (List ℕ) → ℕ
times w l = count_in (same w) l
