use Rattle.std.proofs.Common.{arith}
use Rattle.predicate_cells.proofs.ColumnSteps.{product_more, product_le}
use Rattle.predicate_cells.proofs.columns.count_of.Goals as goal

pub returns-in_err-count-clause-many : goal.returns-in_err-count-clause-many
returns-in_err-count-clause-many c =
    let le = product_le c.args.columns.now c.loop-classes.classes-index c.classes-item.result
    c.loop-classes-test.true c.classes-item.is c.loop-classes.count c.loop-classes.invariant.1 in
    let many = rw c.count.ensures at c.in_err-count.ensures.many in
    rw c.from_residual.ensures (omega arith)

pub loop-classes-preserved : goal.loop-classes-preserved
loop-classes-preserved c =
    let more = product_more c.args.columns.now c.loop-classes.classes-index c.classes-item.result
    c.loop-classes-test.true c.classes-item.is c.loop-classes.count c.loop-classes.invariant.1 in
    (c.in_ok-count.ensures.few.1, rw (c.in_ok-count.ensures.few.0, c.count.ensures) more)
