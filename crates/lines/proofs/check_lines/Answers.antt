-- The claim is too long, or it is checked and the answer's line is all.
use Rattle.std.proofs.Common.{List, ℕ, subst, length}
use Rattle.answers.specs.Answers.{Leaves}
use Rattle.lines.proofs.Programs.{check_refused, check_printed}
use Rattle.lines.proofs.check_lines.Goals as goal

pub returns-then-claim-gt-MOST_CLAIM-clause-leaves : goal.returns-then-claim-gt-MOST_CLAIM-clause-leaves
returns-then-claim-gt-MOST_CLAIM-clause-leaves c =
    let a = c.args in
    subst (λ (t : List ℕ). Leaves (length t) t a.out.now c.leave.new.out c.leave.result)
    (check_refused a.input.now _ _ _ _ c.this_record-f.ensures c.what_follows-rest.ensures c.this_record-g.ensures c.what_follows-claim.ensures (assumption c))
    c.leave.ensures

pub returns-clause-leaves : goal.returns-clause-leaves
returns-clause-leaves c =
    let a = c.args in
    subst (λ (t : List ℕ). Leaves (length t) t a.out.now c.put_text.new.out c.put_text.result)
    (check_printed a.input.now _ _ _ _ c.this_record-f.ensures c.what_follows-rest.ensures c.this_record-g.ensures c.what_follows-claim.ensures _ (assumption c) c.check.ensures)
    c.put_text.ensures.leaves
