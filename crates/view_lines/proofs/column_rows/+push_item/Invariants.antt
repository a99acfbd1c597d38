use Rattle.std.proofs.Common.{length}
use Rattle.view_lines.proofs.column_rows.+push_item.Given as goal

abbrev pub decreases-push_item : goal.decreases-push_item
decreases-push_item l = length l.columns.now
