use Rattle.std.proofs.Common.{◌≡◌, ◌+◌, ◌*◌, drop}
use Rattle.predicate_cells.specs.Ranks.{cells_in, cell_in}
use Rattle.predicate_cells.proofs.columns.cell_among.Given as goal

-- the digits so far and those of the other columns are the cell
abbrev pub invariant-loop-at : goal.invariant-loop-at
invariant-loop-at l =
    l.cell * cells_in (drop l.at l.columns) + cell_in (drop l.at l.columns) (drop l.at l.fields)
    ≡ cell_in l.columns l.fields
