use Rattle.std.proofs.Common.{length}
use Rattle.view_lines.proofs.cell_rows.+push_fields.Given as goal

abbrev pub decreases-push_fields : goal.decreases-push_fields
decreases-push_fields l = length l.columns.now
