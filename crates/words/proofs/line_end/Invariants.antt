-- No LF stands in the first `k` chunks.
use Rattle.std.proofs.Common.{◌≡◌, ◌+◌, ◌*◌, drop}
use Rattle.rules.specs.Lists.{passed_over}
use Rattle.words.specs.Words.{is_lf}
use Rattle.words.proofs.line_end.Given as goal

abbrev pub invariant-loop-k : goal.invariant-loop-k
invariant-loop-k l = 8 * l.k + passed_over is_lf (drop (l.at + 8 * l.k) l.text) ≡ passed_over is_lf (drop l.at l.text)
