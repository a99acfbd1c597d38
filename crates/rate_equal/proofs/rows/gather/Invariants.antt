use Rattle.rate_equal.proofs.Holding.{IsGathering}
use Rattle.rate_equal.proofs.rows.gather.Given as goal

abbrev pub invariant-positions : goal.invariant-positions
invariant-positions l = IsGathering l.rows l.mask l.block l.rest l.found

abbrev pub decreases-positions : goal.decreases-positions
decreases-positions l = l.rest
