-- What is stored so far, followed by the lines still to come, is all of them.
use Rattle.std.proofs.Common.{◌≡◌, ◌+◌, length, drop}
use Rattle.std.proofs.lemmas.List.Edits.{sets}
use Rattle.terms.specs.Terms.{term_lines}
use Rattle.terms.proofs.Writing.{pair_lines}
use Rattle.terms.proofs.put_terms.Given as goal

abbrev pub invariant-loop-pos : goal.invariant-loop-pos
invariant-loop-pos l =
    let rest = pair_lines l.n l.c (drop l.pos-index l.pos-items) in
    let all = term_lines l.n l.c l.list in
    (length l.out ≡ length l.fn.out) × (l.at + length rest ≡ l.start + length all) ×
    (sets l.out l.at rest ≡ sets l.fn.out l.start all)
