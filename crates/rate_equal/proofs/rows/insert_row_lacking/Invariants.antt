use Rattle.std.proofs.Common.{ℕ}
use Rattle.rate_equal.specs.Holding.{HasRow}
use Rattle.rate_equal.proofs.Filling.{IsFilling}
use Rattle.rate_equal.proofs.rows.insert_row_lacking.Given as goal

abbrev pub invariant-parts : goal.invariant-parts
invariant-parts l =
    IsFilling l.initial.places (λ (place : ℕ). HasRow l.rows l.position place → ⊥) l.block l.places
