use Rattle.predicate_cells.proofs.CellsAgree.{cells_decide}
use Rattle.predicate_cells.proofs.CellsBelow.{cell_below}
use Rattle.predicate_cells.proofs.CellsFilled.{cells_have_items}
use Rattle.predicate_cells.proofs.laws.cells_part_items.Goals as goal

pub returns-clause-decide : goal.returns-clause-decide
returns-clause-decide c = cells_decide

pub returns-clause-filled : goal.returns-clause-filled
returns-clause-filled c = cells_have_items

pub returns-clause-below : goal.returns-clause-below
returns-clause-below c = cell_below
