-- The parts of a record.
use Rattle.std.proofs.Common.{◌≡◌, List, [], ◌∷◌, length, refl, arith}
use Rattle.expressions.specs.declared.expr.Expr.{Expr}
use Rattle.expressions.specs.Expressions.{count_of, plain_parts}

pub as_many : (parts : List Expr) → count_of (plain_parts parts) ≡ length parts
as_many [] = refl
as_many (first ∷ rest) = omega (arith, as_many rest)
