use Rattle.rate_equal.proofs.Deciding.{IsPicking}
use Rattle.rate_equal.proofs.twins.one_of_each.Given as goal

abbrev pub invariant-positions : goal.invariant-positions
invariant-positions l = IsPicking l.twins l.mask l.rest l.found

abbrev pub decreases-positions : goal.decreases-positions
decreases-positions l = l.rest
