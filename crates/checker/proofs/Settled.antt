-- Any two outcomes that a public contract allows are equal.
use mathlib.Core.Path.{sym, ap, ◌∙◌}
use Prim.Native.Nat.{ℕ}
use mathlib.Core.List.{List}
use Rattle.std.proofs.Common.{◌≡◌, Ok, Err}
use Rattle.std.specs.declared.result.Result.{Result}
use Rattle.settled.specs.Settled.{Settled}
use Rattle.partial.specs.declared.Wiring.{Wiring}
use Rattle.partial.proofs.Settled.{wiring_one}
use Rattle.checker.specs.declared.Unwired.{Unwired}
use Rattle.checker.specs.Checking.{Wires}
use Rattle.checker.proofs.check.Kinds as check_kinds
use Rattle.checker.proofs.check.Reads as check
use Rattle.checker.proofs.wire.Kinds as wire_kinds
use Rattle.checker.proofs.wire.Reads as wire

pub check_settled : Settled 3 check_kinds.ps check_kinds.r check.Post
check_settled κs a r₁ r₂ s₁ s₂ p q = p ∙ sym q

wires_one : (n : ℕ) (bytes : List ℕ) (at : ℕ) (r₁ r₂ : Result Wiring Unwired) → Wires n bytes at r₁ → Wires n bytes at r₂ → r₁ ≡ r₂
wires_one n bytes at (Ok x) (Ok y) p q = ap Ok (wiring_one x y (p.wiring.is ∙ sym q.wiring.is))
wires_one n bytes at (Ok x) (Err v) p q = let e = p.fault ∙ sym q.fault in cc
wires_one n bytes at (Err u) (Ok y) p q = let e = p.fault ∙ sym q.fault in cc
wires_one n bytes at (Err u) (Err v) p q =
    let e = p.fault ∙ sym q.fault in
    let same : u.fault ≡ v.fault = cc in
    let before = wiring_one u.before v.before (p.wiring.is ∙ sym q.wiring.is) in
    λ i. Err (record { fault = same i; before = before i })

pub wire_settled : Settled 1 wire_kinds.ps wire_kinds.r wire.Post
wire_settled κs a r₁ r₂ s₁ s₂ p q = wires_one _ _ _ r₁ r₂ p q
