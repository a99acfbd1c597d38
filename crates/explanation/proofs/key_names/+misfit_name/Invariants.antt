use Rattle.std.proofs.Common.{length}
use Rattle.explanation.proofs.key_names.+misfit_name.Given as goal

abbrev pub decreases-misfit_name : goal.decreases-misfit_name
decreases-misfit_name l = length l.names.now
