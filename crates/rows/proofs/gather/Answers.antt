-- The walk stops at a fault, at an end without fault, or after the last line.
use Rattle.std.proofs.Common.{◌∙◌, sym, arith}
use Rattle.rows.proofs.Scanned.{walk_ends, turn_fault, turn_end}
use Rattle.rows.proofs.gather.Goals as goal

pub returns-in-Some : goal.returns-in-Some
returns-in-Some c =
    let said = c.says-said.ensures in
    turn_fault _ _ _ _ _ _ c.loop-at.invariant c.loop-at-test.true (omega arith) _ said.at_le_to said.to_bound _ said.line_value
    c.in-Some.code c.in-Some.ensures _ c.at.ensures

pub returns-in-Some-end : goal.returns-in-Some-end
returns-in-Some-end c =
    let said = c.says-said.ensures in
    turn_end _ _ _ _ _ _ c.loop-at.invariant c.loop-at-test.true (omega arith) _ said.at_le_to said.to_bound _ said.line_value
    c.in_default.ensures _ (sym c.end.ensures ∙ c.in-Some-end.is)

pub returns : goal.returns
returns c = walk_ends _ _ _ _ _ _ c.loop-at.invariant c.loop-at-test.false _ c.at-2.ensures
