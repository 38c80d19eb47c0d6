-- What was gathered decides: a faulty line, too many cubes in a list, or what the record's delivery finds.
use Rattle.std.proofs.Common.{◌≡◌, ◌∙◌, refl, sym, ap}
use borrow.Author.Tests.{eqb-false}
use Rattle.answers.specs.declared.Answer.{Answer}
use Rattle.answers.specs.Answers.{refused}
use Rattle.answers.proofs.Stores.{delivered_refusal}
use Rattle.answers.proofs.Verdicts.{verdict_err}
use Rattle.tables.proofs.Delivery.{gathered_refused, gathered_many_on, gathered_many_off, gathered_ready, gathered_delivered}
use Rattle.tables.proofs.read_table.Goals as goal
use Prim.Native.Nat.{ℕ}

-- a refusal with 4
four : (r : Answer) (place : ℕ) → r ≡ refused 4 1 place → r.code ≡ 0 → ⊥
four r place e z = eqb-false 4 0 refl (sym (ap (λ (x : Answer). x.code) e) ∙ z)

pub returns-in-Err : goal.returns-in-Err
returns-in-Err c =
    delivered_refusal _ _ _ _ (gathered_refused _ _ _ _ c.in-Err.ensures _ c.refused_by.ensures _)
    (λ z. (verdict_err _ _ (sym c.in-Err.ensures.found)).coded (ap (λ (x : Answer). x.code) (sym c.refused_by.ensures) ∙ z))

pub returns-then-found-gt64 : goal.returns-then-found-gt64
returns-then-found-gt64 c =
    delivered_refusal _ _ _ _ (gathered_many_on _ _ _ _ c.in-Ok.ensures c.if-found-gt64.true _ c.refused.ensures _) (four _ 3 c.refused.ensures)

pub returns-then-found-gt64-2 : goal.returns-then-found-gt64-2
returns-then-found-gt64-2 c =
    delivered_refusal _ _ _ _
    (gathered_many_off _ _ _ _ c.in-Ok.ensures c.if-found-gt64.false c.if-found-gt64-2.true _ c.refused-then-found-gt64-2.ensures _)
    (four _ 4 c.refused-then-found-gt64-2.ensures)

pub deliver-requires : goal.deliver-requires
deliver-requires c = gathered_ready _ _ _ _ c.in-Ok.ensures c.if-found-gt64.false c.if-found-gt64-2.false

pub returns : goal.returns
returns c = gathered_delivered _ _ _ _ c.in-Ok.ensures c.if-found-gt64.false c.if-found-gt64-2.false _ _ _ c.deliver.ensures
