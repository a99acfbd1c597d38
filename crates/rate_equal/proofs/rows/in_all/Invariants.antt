use Rattle.rate_equal.proofs.Sifting.{IsCutting}
use Rattle.rate_equal.proofs.rows.in_all.Given as goal

abbrev pub invariant-positions : goal.invariant-positions
invariant-positions l = IsCutting l.rows l.mask l.block l.some l.rest l.found

abbrev pub decreases-positions : goal.decreases-positions
decreases-positions l = l.rest
