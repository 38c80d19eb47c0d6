-- The lowest mark is the first LF's, and with no mark all eight bytes are passed over.
use Rattle.words.proofs.Marks.{repeated, first_mark}
use Rattle.words.proofs.first_lf.Goals as goal

pub returns : goal.returns
unfolding repeated
returns c = first_mark 8 c.args.x
