use Rattle.std.proofs.Common.{length}
use Rattle.explanation.proofs.key_names.+again_in.Given as goal

abbrev pub decreases-again_in : goal.decreases-again_in
decreases-again_in l = length l.others.now
