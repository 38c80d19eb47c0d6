-- What the host is told of a place: itself where it fits, and else the largest that does.
use Prim.Native.Nat.{ℕ, ◌≤◌, ◌<◌}
use mathlib.Core.Path.{◌≡◌, ap, subst}
use native.Mathlib.Omega.{arith}
use Rattle.answers.specs.declared.Answer.{Answer}
use Rattle.answers.specs.Answers.{packed, most_told, told, Tells}

abbrev with_place : Answer → ℕ → Answer
with_place a place = record { code = a.code; kind = a.kind; «record» = a.«record»; place = place; pattern = a.pattern }

pub told_fits : (a : Answer) → a.place ≤ most_told → told a ≡ a
unfolding told
told_fits a h = ap (with_place a) (omega arith)

pub told_beyond : (a : Answer) → most_told < a.place → told a ≡ with_place a most_told
unfolding told
told_beyond a h = ap (with_place a) (omega arith)

-- a packed number of an answer is one of its equal
pub packed_as : (r : ℕ) {a b : Answer} → a ≡ b → (r ≡ packed a) × Tells a r → (r ≡ packed b) × Tells b r
packed_as r = subst (λ (a : Answer). (r ≡ packed a) × Tells a r)
