-- Bits of a number, and tests of every number below a bound. All of it is executable.
use Rattle.std.specs.Prelude.{ℕ, zero, suc, ◌+◌, ◌*◌, ◌/◌, ◌%◌, ◌^◌, ◌<◌, min, ◌≡◌, Bool, true, false, cond, ◌&&◌, ◌||◌, eqb}
use Rattle.std.specs.declared.option.Option.{Option}
use Rattle.std.specs.declared.option.Option.TheVariants.{None, Some}

-- bit i of x: 0 or 1
unfoldable pub bit : ℕ → ℕ → ℕ
bit i x = x / 2 ^ i % 2

-- whether bit i of x is 1
abbrev pub has : ℕ → ℕ → Bool
has x i = eqb (bit i x) 1

-- the number below 2^k whose bit i is f i, where f gives 0 or 1
unfoldable pub number : ℕ → (ℕ → ℕ) → ℕ
number zero f = 0
number (suc k) f = f k * 2 ^ k + number k f

-- the mask of the numbers below k that pass the test: bit i is 1 exactly where i does
abbrev pub mask : ℕ → (ℕ → Bool) → ℕ
mask k t = number k (λ i. cond (t i) 1 0)

-- whether the test passes at every number below n
unfoldable pub every : ℕ → (ℕ → Bool) → Bool
every zero p = true
every (suc n) p = every n p && p n

-- whether it passes at some number below n
unfoldable pub any : ℕ → (ℕ → Bool) → Bool
any zero p = false
any (suc n) p = any n p || p n

-- at how many numbers below n it passes
unfoldable pub count : ℕ → (ℕ → Bool) → ℕ
count zero p = 0
count (suc n) p = count n p + cond (p n) 1 0

-- what was found, or else the next
unfoldable pub or_next : Option ℕ → Option ℕ → Option ℕ
or_next None next = next
or_next (Some x) next = Some x

-- the smallest number below n at which it passes, if there is one: each is looked at, upward
unfoldable pub smallest : ℕ → (ℕ → Bool) → Option ℕ
smallest zero p = None
smallest (suc n) p = or_next (smallest n p) (cond (p n) (Some n) None)

-- what that means: it passes there, and nowhere below
pub record IsSmallest (n : ℕ) (p : ℕ → Bool) (x : ℕ) : Type 0 where
  pub within : x < n
  pub passes : p x ≡ true
  pub none_below : (y : ℕ) → y < x → p y ≡ false

-- as a number, 0 for none
unfoldable pub or_zero : Option ℕ → ℕ
or_zero None = 0
or_zero (Some x) = x

-- the lesser of two, as far as there are two
unfoldable pub lesser : Option ℕ → Option ℕ → Option ℕ
lesser None b = b
lesser (Some x) None = Some x
lesser (Some x) (Some y) = Some (min x y)
