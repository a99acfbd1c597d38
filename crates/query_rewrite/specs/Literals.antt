-- For the prover. The numbers of literals, and what is known of operators on them.
use Rattle.std.specs.Prelude.{ℤ, Bool, Option, Some, None}
use Rattle.language_base.specs.Comparisons.{compares}
use Rattle.language_base.specs.declared.binary.BinaryOp.{BinaryOp}
use Rattle.language_base.specs.declared.compare.Compare.{Compare}
use Rattle.language_base.specs.declared.unary.UnaryOp.{UnaryOp}
use Rattle.value_ops.specs.declared.scalar.Scalar.{Scalar}
use Rattle.value_ops.specs.declared.scalar.Scalar.TheVariants.{Number, Overflow, DivZero}
use Rattle.expressions.specs.Expressions.{Expression, literal}
use Rattle.value_ops.specs.Operators.{binary_of, unary_of}

-- the number that a literal is
abbrev pub literal_in : Expression → Option ℤ
literal_in (literal number) = Some number
literal_in _ = None

-- the number that a scalar is
abbrev pub number_in : Scalar → Option ℤ
number_in (Number number) = Some number
number_in Overflow = None
number_in DivZero = None

-- the number that an operator gives on numbers, if they are known
abbrev pub unary_on : UnaryOp → Option ℤ → Option ℤ
unary_on op (Some number) = number_in (unary_of op (Number number))
unary_on op None = None

abbrev pub binary_on : BinaryOp → Option ℤ → Option ℤ → Option ℤ
binary_on op (Some a) (Some b) = number_in (binary_of op (Number a) (Number b))
binary_on op _ _ = None

-- what a comparison of numbers says, if they are known
abbrev pub compared_on : Compare → Option ℤ → Option ℤ → Option Bool
compared_on test (Some a) (Some b) = Some (compares test a b)
compared_on test _ _ = None
