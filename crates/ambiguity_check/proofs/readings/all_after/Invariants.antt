use Rattle.rate_expr.specs.Paths.{Follows}
use Rattle.ambiguity_check.proofs.Gathering.{AreGathered}
use Rattle.ambiguity_check.proofs.readings.all_after.Given as goal

abbrev pub invariant-positions : goal.invariant-positions
invariant-positions l = AreGathered (Follows l.positions) l.mask l.rest l.found

abbrev pub decreases-positions : goal.decreases-positions
decreases-positions l = l.rest
