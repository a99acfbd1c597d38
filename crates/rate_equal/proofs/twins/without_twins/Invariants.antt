use Rattle.rate_equal.proofs.SameRows.{IsSorting}
use Rattle.rate_equal.proofs.twins.without_twins.Given as goal

abbrev pub invariant-positions : goal.invariant-positions
invariant-positions l = IsSorting l.twins l.first l.second l.rest l.found

abbrev pub decreases-positions : goal.decreases-positions
decreases-positions l = l.rest
