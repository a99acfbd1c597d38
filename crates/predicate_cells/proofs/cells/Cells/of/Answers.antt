use Rattle.std.proofs.Common.{ap, ◌∙◌, arith}
use Rattle.predicate_cells.specs.Cells.{cell_of}
use Rattle.predicate_cells.proofs.CellsBelow.{cell_below}
use Rattle.predicate_cells.proofs.RanksOf.{count_of_read, cell_of_read}
use Rattle.predicate_cells.proofs.cells.Cells.of.Goals as goal

pub cell_among-requires : goal.cell_among-requires
cell_among-requires c =
    let count = count_of_read _ _ _ _ c.deref.ensures.value c.self.invariant.3 in
    omega (arith, c.self.invariant.1, c.self.invariant.2)

pub returns-clause-cell : goal.returns-clause-cell
returns-clause-cell c =
    let cell = rw c.fields.ensures at c.cell_among.ensures in
    cell ∙ cell_of_read _ _ _ _ c.args.item.now c.deref.ensures.value c.self.invariant.3
    ∙ ap (λ cells. cell_of cells c.args.item.now) c.self.view_is

pub returns-clause-below : goal.returns-clause-below
returns-clause-below c = rw (returns-clause-cell c) (cell_below c.args.self.now c.args.item.now)
