use Rattle.std.proofs.Common.{length}
use Rattle.view_lines.proofs.json_rows.+push_members.Given as goal

abbrev pub decreases-push_members : goal.decreases-push_members
decreases-push_members l = length l.columns.now
