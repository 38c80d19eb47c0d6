-- The eight characters of a chunk: LF is among them, or it is not.
use Rattle.std.proofs.Common.{arith}
use Rattle.words.proofs.Scans.{eight_over, lf_beyond}
use Rattle.words.proofs.line_end.Goals as goal

pub returns-then-lf-lt8 : goal.returns-then-lf-lt8
returns-then-lf-lt8 c =
    let cut = c.as_chunks.ensures in
    let e = eight_over _ _ _ _ _ c.type_inv.text cut.front cut.front_len c.loop-k-test.true c.from_le_bytes.ensures in
    omega (arith, c.first_lf-lf.ensures, e)

pub loop-k-preserved : goal.loop-k-preserved
loop-k-preserved c =
    let cut = c.as_chunks.ensures in
    let e = lf_beyond _ _ _ _ _ c.type_inv.text cut.front cut.front_len c.loop-k-test.true c.from_le_bytes.ensures (omega arith) in
    omega (arith, e)
