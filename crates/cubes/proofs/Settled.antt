-- Any two outcomes that a public contract allows are equal.
use mathlib.Core.Path.{sym, ◌∙◌}
use Rattle.settled.specs.Settled.{Settled, SettledAs}
use Prim.Native.Nat.{ℕ}
use mathlib.Core.List.{List}
use Rattle.cubes.proofs.each.Kinds as each_kinds
use Rattle.cubes.proofs.each.Reads as each
use Rattle.cubes.proofs.Cube.shares.Kinds as shares_kinds
use Rattle.cubes.proofs.Cube.shares.Reads as shares
use Rattle.cubes.proofs.lesser.Kinds as lesser_kinds
use Rattle.cubes.proofs.lesser.Reads as lesser
use Rattle.cubes.proofs.Cube.least_with.Kinds as least_with_kinds
use Rattle.cubes.proofs.Cube.least_with.Reads as least_with
use Rattle.cubes.proofs.any_holds.Kinds as any_holds_kinds
use Rattle.cubes.proofs.any_holds.Reads as any_holds
use Rattle.cubes.proofs.Cube.any_shares.Kinds as any_shares_kinds
use Rattle.cubes.proofs.Cube.any_shares.Reads as any_shares
use Rattle.cubes.proofs.patterns.Kinds as patterns_kinds
use Rattle.cubes.proofs.patterns.Reads as patterns
use Rattle.cubes.proofs.used.Kinds as used_kinds
use Rattle.cubes.proofs.used.Reads as used

-- of the cubes that are handed back, their masks are seen
pub each_settled : SettledAs 1 each_kinds.ps each_kinds.r (λ κs. List (List ℕ)) (λ κs x s. x.now) each.Post
each_settled κs a r₁ r₂ s₁ s₂ p q = p ∙ sym q

pub shares_settled : Settled 0 shares_kinds.ps shares_kinds.r shares.Post
shares_settled κs a r₁ r₂ s₁ s₂ p q = p ∙ sym q

pub lesser_settled : Settled 0 lesser_kinds.ps lesser_kinds.r lesser.Post
lesser_settled κs a r₁ r₂ s₁ s₂ p q = p ∙ sym q

pub least_with_settled : Settled 1 least_with_kinds.ps least_with_kinds.r least_with.Post
least_with_settled κs a r₁ r₂ s₁ s₂ p q = p ∙ sym q

pub any_holds_settled : Settled 1 any_holds_kinds.ps any_holds_kinds.r any_holds.Post
any_holds_settled κs a r₁ r₂ s₁ s₂ p q = p ∙ sym q

pub any_shares_settled : Settled 1 any_shares_kinds.ps any_shares_kinds.r any_shares.Post
any_shares_settled κs a r₁ r₂ s₁ s₂ p q = p ∙ sym q

pub patterns_settled : Settled 1 patterns_kinds.ps patterns_kinds.r patterns.Post
patterns_settled κs a r₁ r₂ s₁ s₂ p q = p ∙ sym q

pub used_settled : Settled 2 used_kinds.ps used_kinds.r used.Post
used_settled κs a r₁ r₂ s₁ s₂ p q = p ∙ sym q
