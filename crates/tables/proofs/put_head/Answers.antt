-- Two numbers between fixed texts; 26 bytes are enough for one digit and three.
use Rattle.std.proofs.Common.{arith}
use Rattle.words.proofs.Decimals.{decimal_most}
use Rattle.tables.proofs.Export.{head_most, head_stored}
use Rattle.tables.proofs.put_head.Goals as goal

pub put_number-at-requires : goal.put_number-at-requires
put_number-at-requires c = omega (arith, decimal_most 0 c.args.n c.requires.n_bound)

pub put-requires-2 : goal.put-requires-2
put-requires-2 c = omega (arith, decimal_most 0 c.args.n c.requires.n_bound)

pub overflow_add-at : goal.overflow_add-at
overflow_add-at c = omega (arith, decimal_most 0 c.args.n c.requires.n_bound)

pub put_number-requires : goal.put_number-requires
put_number-requires c = omega (arith, decimal_most 0 c.args.n c.requires.n_bound, decimal_most 2 c.args.terms (omega arith))

pub returns : goal.returns
returns c =
    let a = c.args in
    let e₂ = c.put_number-at.ensures in
    let e₄ = c.put_number.ensures in
    let stored = head_stored a.n a.terms a.out.now _ _ _ _ _ _ c.put.ensures e₂.value e₂.out_after c.put-2.ensures e₄.value e₄.out_after in
    let most = head_most a.n a.terms c.requires.n_bound (omega arith) in
    record { upper_bound = omega arith; value = stored.0; out_after = stored.1 }
