use Rattle.std.proofs.Common.{arith}
use Rattle.predicate_cells.proofs.ColumnSteps.{product_le}
use Rattle.predicate_cells.proofs.columns.product_of.Goals as goal

pub overflow_mul-count : goal.overflow_mul-count
overflow_mul-count c =
    let le = product_le c.args.columns.now c.loop-classes.classes-index c.classes-item.result
    c.loop-classes-test.true c.classes-item.is c.loop-classes.count c.loop-classes.invariant in
    rw c.count-count.ensures (omega (arith, c.requires))
