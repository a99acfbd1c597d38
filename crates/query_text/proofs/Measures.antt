-- How much there is to go through: each expression and each end of a list counts.
use Rattle.std.proofs.Common.{ℕ, ◌+◌}
use Rattle.expressions.specs.Expressions.{Expression, literal, read, unary, binary, choice, sum}
use Rattle.expressions.specs.Expressions.{count, most, least, entry, rec, part, Expressions, none}
use Rattle.expressions.specs.Expressions.{more}

abbrev mutual
  pub weight_of : Expression → ℕ
  weight_of (literal number) = 1
  weight_of (read name) = 1
  weight_of (unary op inner) = weight_of inner + 1
  weight_of (binary op first second) = weight_of first + weight_of second + 2
  weight_of (choice test first second met other) =
      (weight_of first + weight_of second + 1) + weight_of met + weight_of other + 1
  weight_of (sum name) = 1
  weight_of (count name) = 1
  weight_of (most name first) = weight_of first + 1
  weight_of (least name first) = weight_of first + 1
  weight_of (entry name key other) = weight_of other + 1
  weight_of (rec parts) = weight_of_all parts + 1
  weight_of (part name place) = 1

  pub weight_of_all : Expressions → ℕ
  weight_of_all none = 0
  weight_of_all (more first rest) = weight_of first + weight_of_all rest + 1
