-- What is written, followed by the bytes still to come, is the whole line.
use Rattle.lines.proofs.Texts.{Spelt}
use Rattle.lines.proofs.put_hex.Given as goal

abbrev pub invariant-loop-i : goal.invariant-loop-i
invariant-loop-i l = Spelt l.initial.out l.fn.start l.fn.bytes l.out l.i l.at
