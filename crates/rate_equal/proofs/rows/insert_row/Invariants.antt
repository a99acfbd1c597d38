use Rattle.rate_equal.specs.Holding.{HasRow}
use Rattle.rate_equal.proofs.Filling.{IsFilling}
use Rattle.rate_equal.proofs.rows.insert_row.Given as goal

abbrev pub invariant-parts : goal.invariant-parts
invariant-parts l = IsFilling l.initial.places (HasRow l.rows l.position) l.block l.places
