use Rattle.std.proofs.Common.{length}
use Rattle.query_text.proofs.rate_text.+write_other_names.Given as goal

abbrev pub decreases-write_other_names : goal.decreases-write_other_names
decreases-write_other_names l = length l.chosen.now
