use Rattle.rate_equal.proofs.Holding.{IsHolding}
use Rattle.rate_equal.proofs.rows.hold.Given as goal

abbrev pub invariant-positions : goal.invariant-positions
invariant-positions l = IsHolding l.initial.rows l.place l.mask l.rest l.rows

abbrev pub decreases-positions : goal.decreases-positions
decreases-positions l = l.rest
