-- The masks are those of the inputs so far, and the characters that remain decide.
use Rattle.std.proofs.Common.{◌≡◌, ◌^◌}
use Rattle.terms.specs.Terms.{on_char, off_char}
use Rattle.terms.proofs.Seen.{so_far, inputs_from}
use Rattle.terms.proofs.masks.Given as goal

abbrev pub invariant-loop-c : goal.invariant-loop-c
invariant-loop-c l =
    let i = l.c-index in
    (l.weight ≡ 2 ^ i) × (l.pos ≡ so_far l.w on_char i) × (l.neg ≡ so_far l.w off_char i) × (inputs_from l.w 0 ≡ inputs_from l.w i)
