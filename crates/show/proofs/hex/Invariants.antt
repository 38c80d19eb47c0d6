-- The bytes so far are shown.
use Rattle.std.proofs.Common.{take}
use Rattle.std.specs.Io.KnownBytes.{Appends}
use Rattle.show.specs.Shown.{hex_text}
use Rattle.show.proofs.hex.Given as goal

abbrev pub invariant-loop-i : goal.invariant-loop-i
invariant-loop-i g l = Appends (g.W.Write.contents l.initial.to) (g.W.Write.contents l.to) (hex_text (take l.i l.bytes))
