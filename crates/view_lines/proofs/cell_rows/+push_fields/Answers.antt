use Rattle.std.proofs.Common.{arith}
use Rattle.view_lines.proofs.Ends.{cells_end}
use Rattle.view_lines.proofs.cell_rows.+push_fields.Goals as goal

pub returns-in_default-2 : goal.returns-in_default-2
returns-in_default-2 t c =
    cells_end c.args.delimiter c.args.text.now.items c.args.columns.now c.args.fields.now
    (grind arith)
