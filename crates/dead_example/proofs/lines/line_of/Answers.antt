use Rattle.dead_example.proofs.InCells.{line_found}
use Rattle.dead_example.proofs.lines.line_of.Goals as goal

pub returns : goal.returns
returns c = line_found c.args.cells.now c.args.place _ c.in_ok-item.ensures.cell _
    (rw c.schema.ensures at c.shown_line.ensures)
