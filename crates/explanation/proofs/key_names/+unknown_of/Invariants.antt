use Rattle.std.proofs.Common.{length}
use Rattle.explanation.proofs.key_names.+unknown_of.Given as goal

abbrev pub decreases-unknown_of : goal.decreases-unknown_of
decreases-unknown_of l = length l.names.now
