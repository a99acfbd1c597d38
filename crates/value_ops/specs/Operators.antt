-- Statement. What the operators do with scalars: the exact result first, and its range afterwards.
use Rattle.std.specs.Prelude.{ℤ, pos, ◌+ℤ◌, ◌-ℤ◌, ◌*ℤ◌, neg_ℤ, int_div, int_rem, unsigned_abs}
use Rattle.std.specs.Prelude.{if◌then◌else◌, Option, Some, None}
use Rattle.std.specs.Ordering.{int_eq}
use Rattle.std.specs.Int.{int_min, int_max}
use Rattle.language_base.specs.declared.binary.BinaryOp.{BinaryOp}
use Rattle.language_base.specs.declared.binary.BinaryOp.TheVariants.{Add, Sub, Mul, Div, Rem, Min}
use Rattle.language_base.specs.declared.binary.BinaryOp.TheVariants.{Max}
use Rattle.language_base.specs.declared.unary.UnaryOp.{UnaryOp}
use Rattle.language_base.specs.declared.unary.UnaryOp.TheVariants.{Neg, Abs}
use Rattle.value_ops.specs.declared.scalar.Scalar.{Scalar}
use Rattle.value_ops.specs.declared.scalar.Scalar.TheVariants.{Number, DivZero}
use Rattle.value_ops.specs.Scalar.{in_range, on_numbers}

-- the exact result on one number
abbrev pub exact_of : UnaryOp → ℤ → ℤ
exact_of Neg number = neg_ℤ number
exact_of Abs number = pos (unsigned_abs number)

-- the same for a scalar, in range
abbrev pub unary_of : UnaryOp → Scalar → Scalar
unary_of op (Number number) = in_range (exact_of op number)
unary_of op failed = failed

-- the result of a division, where there is one
abbrev pub divided : ℤ → ℤ → Option ℤ
divided divisor result = if int_eq divisor (pos 0) then None else Some result

-- The exact result on two numbers; there is none where a divisor is 0. A quotient is cut towards
-- zero, and a remainder has the sign of the dividend.
abbrev pub exact : BinaryOp → ℤ → ℤ → Option ℤ
exact Add first second = Some (first +ℤ second)
exact Sub first second = Some (first -ℤ second)
exact Mul first second = Some (first *ℤ second)
exact Div first second = divided second (int_div first second)
exact Rem first second = divided second (int_rem first second)
exact Min first second = Some (int_min first second)
exact Max first second = Some (int_max first second)

-- the result in range, and what stands for none
abbrev pub kept : Option ℤ → Scalar
kept None = DivZero
kept (Some number) = in_range number

-- what an operator gives on two scalars
abbrev pub binary_of : BinaryOp → Scalar → Scalar → Scalar
binary_of op first second = on_numbers (λ a b. kept (exact op a b)) first second
