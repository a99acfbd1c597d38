-- A well-typed expression has one type, and a number expression gives a scalar.
use Rattle.std.proofs.Common.{◌≡◌, ◌∙◌, [], None, refl, ap, sym}
use Rattle.std.specs.Option.{option_map}
use Rattle.language_base.specs.declared.binary.BinaryOp.{BinaryOp}
use Rattle.language_base.specs.declared.unary.UnaryOp.{UnaryOp}
use Rattle.std.specs.Prelude.{ℤ, FitsSigned}
use Rattle.std.specs.Int.{w64}
use Rattle.expressions.specs.declared.expr.Var.TheVariants as var
use Rattle.value_ops.specs.declared.scalar.Scalar.TheVariants.{Number}
use Rattle.value_ops.specs.declared.value.Value.TheVariants as value
use Rattle.value_ops.specs.declared.value.ValueType.{ValueType}
use Rattle.value_ops.specs.declared.value.ValueType.TheVariants as type
use Rattle.expressions.specs.Evaluation.{Inputs, given, scalar_in, scalar_of, value_of}
use Rattle.expressions.specs.Expressions.{Expression, literal, read, unary, binary}
use Rattle.expressions.specs.Expressions.{rec}
use Rattle.value_ops.specs.Operators.{binary_of, unary_of}
use Rattle.value_ops.specs.Types.{IsScalar}
use Rattle.expressions.specs.Typing.{Types, AreValues, HasType, IsNumber, types_of}
use Rattle.expressions.proofs.TypedNames.{scalar_named}
use Rattle.expressions.proofs.TypedValues.{typed_range}
use Rattle.query_model.specs.QueryTypes.{type_of_expression, type_or_number}

-- the type of a well-typed expression
pub typed_type : (types : Types) (e : Expression) (ty : ValueType) → HasType types e ty
    → type_of_expression types e ≡ ty
typed_type types (read name) type.Number typed = ap type_or_number typed
typed_type types (rec parts) type.Number typed = absurd typed
typed_type types _ type.Number typed = refl
typed_type types (read name) (type.Rec size) typed = ap type_or_number typed
typed_type types (rec parts) (type.Rec size) typed = ap type.Rec typed.0
typed_type types _ (type.Rec size) typed = absurd typed
typed_type types (read name) type.Table typed = ap type_or_number typed
typed_type types _ type.Table typed = absurd typed

-- a number expression gives a scalar
pub number_value : (inputs : Inputs) (e : Expression) → IsNumber (types_of inputs) e
    → value_of inputs e ≡ option_map value.Scalar (scalar_of inputs e)
number_value inputs (read name) typed =
    let found = scalar_named inputs name typed in
    found.1 ∙ sym (ap (λ v. option_map value.Scalar (scalar_in v)) found.1)
number_value inputs (rec parts) typed = absurd typed
number_value inputs _ typed = refl

-- what is known where no name stands for anything
abbrev nothing : Inputs
nothing = given [] None None

no_values : AreValues nothing
no_values (var.Field at) v same = cc
no_values var.Left v same = cc
no_values var.Right v same = cc

-- an operator on literals gives a scalar
pub unary_scalar : (op : UnaryOp) (number : ℤ) → FitsSigned w64 number
    → IsScalar (unary_of op (Number number))
unary_scalar op number fits =
    typed_range nothing (unary op (literal number)) type.Number
    (value.Scalar (unary_of op (Number number))) no_values fits refl

pub binary_scalar : (op : BinaryOp) (a b : ℤ) → FitsSigned w64 a → FitsSigned w64 b
    → IsScalar (binary_of op (Number a) (Number b))
binary_scalar op a b first second =
    typed_range nothing (binary op (literal a) (literal b)) type.Number
    (value.Scalar (binary_of op (Number a) (Number b))) no_values (first, second) refl
