-- What is shown of the lent buffer is the claim; it lies in the buffer, since the answer was accepted for its length.
use Rattle.std.proofs.Common.{List, ℕ, sym, subst, length}
use lib.Seq.{length-take-le}
use Rattle.answers.specs.Answers.{Leaves}
use Rattle.lines.proofs.Programs.{shown_within, match_printed}
use Rattle.lines.proofs.match_lines.Goals as goal

pub slice_bounds-claim-end : goal.slice_bounds-claim-end
slice_bounds-claim-end c = shown_within _ _ _ _ _ c.room-claim.ensures.len c.find-answer.ensures _ c.shown-len.ensures

pub slice_bounds-put_text-end : goal.slice_bounds-put_text-end
slice_bounds-put_text-end c = sym (length-take-le _ _ (shown_within _ _ _ _ _ c.room-claim.ensures.len c.find-answer.ensures _ c.shown-len.ensures))

pub returns-clause-leaves : goal.returns-clause-leaves
returns-clause-leaves c =
    let a = c.args in
    subst (λ (t : List ℕ). Leaves (length t) t a.out.now c.put_text.new.out c.put_text.result)
    (match_printed _ _ _ _ _ c.room-claim.ensures.len c.find-answer.ensures _ c.shown-len.ensures a.input.now _ c.this_record-f.ensures c.what_follows.ensures c.this_record-g.ensures)
    c.put_text.ensures.leaves
