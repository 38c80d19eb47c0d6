-- The character at hand passes the test, or the scan goes on behind it.
use mathlib.Core.Path.{sym, subst, ◌∙◌}
use Rattle.words.proofs.Scans.{scan_starts, scan_found, scan_goes, scan_ends}
use Rattle.words.proofs.passed.Invariants.{Answers}
use Rattle.words.proofs.passed.Goals as goal

pub loop-i-init : goal.loop-i-init
loop-i-init g c = λ t h. (h, scan_starts t _ _ c.requires.at_in_bounds)

pub returns-then-stops : goal.returns-then-stops
returns-then-stops g c = λ t h.
    let w = c.loop-i.invariant t h in
    let called = w.0 _ _ _ c.stops.ensures in
    scan_found t _ _ _ w.1 c.loop-i-test.true (sym called.1 ∙ c.if-stops.true)

pub loop-i-preserved : goal.loop-i-preserved
loop-i-preserved g c = λ t h.
    let w = c.loop-i.invariant t h in
    let called = w.0 _ _ _ c.stops.ensures in
    (subst (λ f. Answers g f t) (sym called.0) w.0, scan_goes t _ _ _ w.1 c.loop-i-test.true (sym called.1 ∙ c.if-stops.false))

pub returns : goal.returns
returns g c = λ t h.
    let w = c.loop-i.invariant t h in
    scan_ends t _ _ _ w.1 c.loop-i-test.false
