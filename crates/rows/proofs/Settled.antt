-- Any two outcomes that the contract allows have the same fault, or none; and where there is none, the same n, the same numbers
-- of
-- cubes, and the same cubes at the start of a list that has no more than 64. What the buffers hold beyond these is left open.
use Rattle.std.proofs.Common.{◌≡◌, ℕ, List, ◌*◌, ◌≤◌, ◌∙◌, sym, arith, take, Ok}
use Rattle.std.specs.declared.result.Result.{Result}
use Rattle.settled.specs.Settled.{SettledAs}
use Rattle.answers.specs.declared.Fault.{Fault}
use Rattle.rows.specs.declared.Scan.{Scan}
use Rattle.rows.specs.Known.{scanned, Gathered}
use Rattle.rows.proofs.gather.Kinds as gather_kinds
use Rattle.rows.proofs.gather.Reads as gather

pub gather_settled : SettledAs 3 gather_kinds.ps gather_kinds.r (λ κs. Result (Unit {0}) Fault) (λ κs x s. scanned x) gather.Post
gather_settled κs a r₁ r₂ s₁ s₂ p q = p.found ∙ sym q.found

module _ (text on₁ off₁ on₂ off₂ : List ℕ) (r₁ r₂ : Scan) (p : Gathered text on₁ off₁ (Ok r₁))
    (q : Gathered text on₂ off₂ (Ok r₂)) where
  pub counts_settled : (r₁.n ≡ r₂.n) × (r₁.on ≡ r₂.on) × (r₁.off ≡ r₂.off)
  counts_settled = (
    p.kept_both.inputs_are ∙ sym q.kept_both.inputs_are,
    omega (arith, p.kept_both.on_count, q.kept_both.on_count),
    omega (arith, p.kept_both.off_count, q.kept_both.off_count),
  )

  pub on_settled : r₁.on ≤ 64 → take (2 * r₁.on) on₁ ≡ take (2 * r₂.on) on₂
  on_settled few = p.kept_both.on_stored few ∙ sym (q.kept_both.on_stored (omega (arith, few, counts_settled.1)))

  pub off_settled : r₁.off ≤ 64 → take (2 * r₁.off) off₁ ≡ take (2 * r₂.off) off₂
  off_settled few = p.kept_both.off_stored few ∙ sym (q.kept_both.off_stored (omega (arith, few, counts_settled.2)))
