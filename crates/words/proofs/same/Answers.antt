-- One length, and then character by character.
use mathlib.Core.Path.{sym}
use Rattle.words.proofs.Scans.{other_length, alike_starts, alike_not, alike_goes, alike_ends}
use Rattle.words.proofs.same.Goals as goal

pub returns-then-w-v : goal.returns-then-w-v
returns-then-w-v c = sym (other_length _ _ c.if-w-v.true)

pub loop-i-init : goal.loop-i-init
loop-i-init c = alike_starts _ _ c.if-w-v.false

pub returns-then-c-v : goal.returns-then-c-v
returns-then-c-v c = sym (alike_not _ _ _ c.loop-i.invariant c.loop-i-test.true c.if-c-v.true)

pub loop-i-preserved : goal.loop-i-preserved
loop-i-preserved c = alike_goes _ _ _ c.loop-i.invariant c.loop-i-test.true c.if-c-v.false

pub returns : goal.returns
returns c = sym (alike_ends _ _ _ c.loop-i.invariant c.loop-i-test.false)
