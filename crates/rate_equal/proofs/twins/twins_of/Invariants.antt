use Rattle.std.proofs.Common.{ℕ}
use Rattle.rate_expr.specs.Sets.{Has}
use Rattle.rate_equal.specs.Holding.{HaveSameRow}
use Rattle.rate_equal.proofs.twins.twins_of.Given as goal

abbrev pub invariant-twins : goal.invariant-twins
invariant-twins l = (twin : ℕ) → Has l.found twin → HaveSameRow l.first l.second twin l.position
