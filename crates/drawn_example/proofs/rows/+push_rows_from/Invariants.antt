use Rattle.std.proofs.Common.{length}
use Rattle.drawn_example.proofs.rows.+push_rows_from.Given as goal

abbrev pub decreases-push_rows_from : goal.decreases-push_rows_from
decreases-push_rows_from l = length l.items.now
