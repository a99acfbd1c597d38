use Rattle.std.proofs.Common.{arith}
use Rattle.std.proofs.lemmas.List.{drop_all}
use Rattle.predicate_cells.proofs.ColumnSteps.{cell_more, cell_le}
use Rattle.predicate_cells.proofs.RanksBelow.{cell_in_below}
use Rattle.predicate_cells.proofs.columns.cell_among.Goals as goal

pub overflow_mul-cell : goal.overflow_mul-cell
overflow_mul-cell c =
    let le = cell_le c.args.columns.now c.loop-at.at c.index-columns-at.result c.loop-at-test.true
    c.index-columns-at.is c.args.fields.now c.loop-at.cell c.loop-at.invariant in
    rw c.count.ensures (omega (arith, c.requires))

pub overflow_add-cell : goal.overflow_add-cell
overflow_add-cell c =
    let le = cell_le c.args.columns.now c.loop-at.at c.index-columns-at.result c.loop-at-test.true
    c.index-columns-at.is c.args.fields.now c.loop-at.cell c.loop-at.invariant in
    rw (c.count.ensures, c.class_at.ensures) (omega (arith, c.requires))

pub loop-at-preserved : goal.loop-at-preserved
loop-at-preserved c =
    rw (c.count.ensures, c.class_at.ensures)
    (cell_more c.args.columns.now c.loop-at.at c.index-columns-at.result c.loop-at-test.true
    c.index-columns-at.is c.args.fields.now c.loop-at.cell c.loop-at.invariant)

pub overflow_cast-result : goal.overflow_cast-result
overflow_cast-result c =
    let whole = rw (drop_all c.loop-at.at c.args.columns.now c.loop-at-test.false) at
    c.loop-at.invariant in
    omega (arith, cell_in_below c.args.columns.now c.args.fields.now, c.requires)
