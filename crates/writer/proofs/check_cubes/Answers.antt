-- The on list, the off list, then the one against the other.
use Rattle.std.proofs.Common.{arith}
use Rattle.writer.proofs.Laws.{cubes_by}
use Rattle.writer.proofs.check_cubes.Goals as goal

pub returns-in-Err : goal.returns-in-Err
returns-in-Err c =
    let e = cubes_by c.args.n c.args.on.now c.args.off.now c.requires (λ i. (c.type_inv.on i).fits) (λ i. (c.type_inv.off i).fits) in grind arith

pub returns-in-Err-cubes_fault : goal.returns-in-Err-cubes_fault
returns-in-Err-cubes_fault c =
    let e = cubes_by c.args.n c.args.on.now c.args.off.now c.requires (λ i. (c.type_inv.on i).fits) (λ i. (c.type_inv.off i).fits) in grind arith

pub returns-in-Err-clash_fault : goal.returns-in-Err-clash_fault
returns-in-Err-clash_fault c =
    let e = cubes_by c.args.n c.args.on.now c.args.off.now c.requires (λ i. (c.type_inv.on i).fits) (λ i. (c.type_inv.off i).fits) in grind arith

pub returns : goal.returns
returns c =
    let e = cubes_by c.args.n c.args.on.now c.args.off.now c.requires (λ i. (c.type_inv.on i).fits) (λ i. (c.type_inv.off i).fits) in grind arith
