use Rattle.rate_equal.specs.Holding.{HasRow}
use Rattle.rate_equal.proofs.Filling.{IsFillingRows}
use Rattle.rate_equal.proofs.rows.insert_rows.Given as goal

abbrev pub invariant-positions : goal.invariant-positions
invariant-positions l = IsFillingRows l.initial.places l.mask (HasRow l.rows) l.rest l.places

abbrev pub decreases-positions : goal.decreases-positions
decreases-positions l = l.rest
