-- A reduced expression is well typed as before, and gives what it gave.
use Rattle.std.proofs.Common.{◌≡◌, ◌∙◌, ◌+◌, Bool, true, false, Some}
use Rattle.std.proofs.Common.{refl, ap, sym, subst}
use Rattle.std.specs.Prelude.{if◌then◌else◌}
use Rattle.std.specs.Option.{option_map}
use Rattle.language_base.specs.Comparisons.{compares}
use Rattle.language_base.specs.declared.binary.BinaryOp.{BinaryOp}
use Rattle.language_base.specs.declared.compare.Compare.{Compare}
use Rattle.language_base.specs.declared.unary.UnaryOp.{UnaryOp}
use Rattle.value_ops.specs.declared.scalar.Scalar.{Scalar}
use Rattle.value_ops.specs.declared.scalar.Scalar.TheVariants.{Number, Overflow, DivZero}
use Rattle.value_ops.specs.declared.value.Value.TheVariants as value
use Rattle.value_ops.specs.declared.value.ValueType.{ValueType}
use Rattle.value_ops.specs.declared.value.ValueType.TheVariants as type
use Rattle.expressions.specs.Evaluation.{Inputs, chosen_of, least_of, most_of, of_both, scalar_at}
use Rattle.expressions.specs.Evaluation.{scalar_of, scalars_of, table_in, value_named, value_of}
use Rattle.expressions.specs.Expressions.{Expression, literal, read, unary, binary, choice, sum}
use Rattle.expressions.specs.Expressions.{count, most, least, entry, rec, part, Expressions, none}
use Rattle.expressions.specs.Expressions.{more, count_of}
use Rattle.value_ops.specs.Operators.{binary_of, unary_of}
use Rattle.value_ops.specs.Types.{IsScalar}
use Rattle.expressions.specs.Typing.{Types, AreNumbers, HasType, IsNumber, types_of}
use Rattle.query_model.specs.QueryTypes.{type_of_expression}
use Rattle.query_model.specs.Rules.{IsTyped}
use Rattle.query_rewrite.specs.Reducing.{literal_or, unary_reduced, binary_reduced, choice_reduced}
use Rattle.query_rewrite.specs.Reducing.{reduced, each_reduced}
use Rattle.query_rewrite.proofs.ExpressionTypes.{typed_type, number_value, unary_scalar}
use Rattle.query_rewrite.proofs.ExpressionTypes.{binary_scalar}

-- Numbers stay numbers.

literal_number : (types : Types) (s : Scalar) (e : Expression) → IsScalar s → IsNumber types e
    → IsNumber types (literal_or s e)
literal_number types (Number number) e is typed = is
literal_number types Overflow e is typed = typed
literal_number types DivZero e is typed = typed

unary_number : (types : Types) (op : UnaryOp) (e : Expression) → IsNumber types e
    → IsNumber types (unary_reduced op e)
unary_number types op (literal number) typed =
    literal_number types (unary_of op (Number number)) (unary op (literal number))
    (unary_scalar op number typed) typed
unary_number types op _ typed = typed

binary_number : (types : Types) (op : BinaryOp) (a b : Expression) → IsNumber types a
    → IsNumber types b → IsNumber types (binary_reduced op a b)
binary_number types op (literal x) (literal y) first second =
    literal_number types (binary_of op (Number x) (Number y)) (binary op (literal x) (literal y))
    (binary_scalar op x y first second) (first, second)
binary_number types op _ _ first second = (first, second)

either_number : (types : Types) (b : Bool) (met other : Expression) → IsNumber types met
    → IsNumber types other → IsNumber types (if b then met else other)
either_number types true met other first second = first
either_number types false met other first second = second

choice_number : (types : Types) (test : Compare) (a b met other : Expression) → IsNumber types a
    → IsNumber types b → IsNumber types met → IsNumber types other
    → IsNumber types (choice_reduced test a b met other)
choice_number types test (literal x) (literal y) met other p q r s =
    either_number types (compares test x y) met other r s
choice_number types test _ _ met other p q r s = (p, q, r, s)

pub number_reduced : (types : Types) (e : Expression) → IsNumber types e
    → IsNumber types (reduced e)
number_reduced types (literal number) typed = typed
number_reduced types (read name) typed = typed
number_reduced types (unary op inner) typed =
    unary_number types op (reduced inner) (number_reduced types inner typed)
number_reduced types (binary op first second) typed =
    binary_number types op (reduced first) (reduced second) (number_reduced types first typed.0)
    (number_reduced types second typed.1)
number_reduced types (choice test first second met other) typed =
    choice_number types test (reduced first) (reduced second) (reduced met) (reduced other)
    (number_reduced types first typed.0) (number_reduced types second typed.1)
    (number_reduced types met typed.2) (number_reduced types other typed.3)
number_reduced types (sum name) typed = typed
number_reduced types (count name) typed = typed
number_reduced types (most name first) typed = (typed.0, number_reduced types first typed.1)
number_reduced types (least name first) typed = (typed.0, number_reduced types first typed.1)
number_reduced types (entry name key other) typed = (typed.0, number_reduced types other typed.1)
number_reduced types (rec parts) typed = absurd typed
number_reduced types (part name place) typed = typed

numbers_reduced : (types : Types) (parts : Expressions) → AreNumbers types parts
    → AreNumbers types (each_reduced parts)
numbers_reduced types none typed = tt
numbers_reduced types (more first rest) typed =
    (number_reduced types first typed.0, numbers_reduced types rest typed.1)

as_many : (parts : Expressions) → count_of (each_reduced parts) ≡ count_of parts
as_many none = refl
as_many (more first rest) = ap (λ n. n + 1) (as_many rest)

-- So a type stays.

type_reduced : (types : Types) (e : Expression) (ty : ValueType) → HasType types e ty
    → HasType types (reduced e) ty
type_reduced types e type.Number typed = number_reduced types e typed
type_reduced types (read name) (type.Rec size) typed = typed
type_reduced types (rec parts) (type.Rec size) typed =
    (as_many parts ∙ typed.0, typed.1, numbers_reduced types parts typed.2)
type_reduced types _ (type.Rec size) typed = absurd typed
type_reduced types (read name) type.Table typed = typed
type_reduced types _ type.Table typed = absurd typed

-- the expression has the same type, and is well typed
pub record KeepsType (types : Types) (e other : Expression) : Type 0 where
  pub type : type_of_expression types other ≡ type_of_expression types e
  pub typed : IsTyped types other

pub keeps_type : (types : Types) (e other : Expression)
    → HasType types other (type_of_expression types e) → KeepsType types e other
keeps_type types e other typed =
    let same = typed_type types other (type_of_expression types e) typed in
    record { type = same; typed = subst (HasType types other) (sym same) typed }

pub typed_reduced : (types : Types) (e : Expression) → IsTyped types e
    → KeepsType types e (reduced e)
typed_reduced types e typed =
    keeps_type types e (reduced e) (type_reduced types e (type_of_expression types e) typed)

-- The value is the same.

module _ (inputs : Inputs) where
  literal_scalar : (s : Scalar) (e : Expression) → scalar_of inputs e ≡ Some s
      → scalar_of inputs (literal_or s e) ≡ Some s
  literal_scalar (Number number) e same = refl
  literal_scalar Overflow e same = same
  literal_scalar DivZero e same = same

  unary_same : (op : UnaryOp) (e : Expression)
      → scalar_of inputs (unary_reduced op e) ≡ option_map (unary_of op) (scalar_of inputs e)
  unary_same op (literal number) =
      literal_scalar (unary_of op (Number number)) (unary op (literal number)) refl
  unary_same op _ = refl

  binary_same : (op : BinaryOp) (a b : Expression) → scalar_of inputs (binary_reduced op a b)
      ≡ of_both (binary_of op) (scalar_of inputs a) (scalar_of inputs b)
  binary_same op (literal x) (literal y) =
      literal_scalar (binary_of op (Number x) (Number y)) (binary op (literal x) (literal y)) refl
  binary_same op _ _ = refl

  either_same : (b : Bool) (met other : Expression)
      → scalar_of inputs (if b then met else other)
      ≡ (if b then scalar_of inputs met else scalar_of inputs other)
  either_same true met other = refl
  either_same false met other = refl

  choice_same : (test : Compare) (a b met other : Expression)
      → scalar_of inputs (choice_reduced test a b met other)
      ≡ chosen_of test (scalar_of inputs a) (scalar_of inputs b) (scalar_of inputs met)
      (scalar_of inputs other)
  choice_same test (literal x) (literal y) met other = either_same (compares test x y) met other
  choice_same test _ _ met other = refl

  scalar_reduced : (e : Expression) → scalar_of inputs (reduced e) ≡ scalar_of inputs e
  scalar_reduced (literal number) = refl
  scalar_reduced (read name) = refl
  scalar_reduced (unary op inner) =
      unary_same op (reduced inner) ∙ ap (option_map (unary_of op)) (scalar_reduced inner)
  scalar_reduced (binary op first second) =
      binary_same op (reduced first) (reduced second)
      ∙ (λ i. of_both (binary_of op) (scalar_reduced first i) (scalar_reduced second i))
  scalar_reduced (choice test first second met other) =
      choice_same test (reduced first) (reduced second) (reduced met) (reduced other)
      ∙ (λ i. chosen_of test (scalar_reduced first i) (scalar_reduced second i)
      (scalar_reduced met i) (scalar_reduced other i))
  scalar_reduced (sum name) = refl
  scalar_reduced (count name) = refl
  scalar_reduced (most name first) =
      ap (λ s. of_both most_of s (table_in (value_named inputs name))) (scalar_reduced first)
  scalar_reduced (least name first) =
      ap (λ s. of_both least_of s (table_in (value_named inputs name))) (scalar_reduced first)
  scalar_reduced (entry name key other) =
      ap (λ s. scalar_at key s (table_in (value_named inputs name))) (scalar_reduced other)
  scalar_reduced (rec parts) = refl
  scalar_reduced (part name place) = refl

  scalars_reduced : (parts : Expressions)
      → scalars_of inputs (each_reduced parts) ≡ scalars_of inputs parts
  scalars_reduced none = refl
  scalars_reduced (more first rest) =
      rw (scalar_reduced first, scalars_reduced rest) refl

  value_same : (e : Expression) (ty : ValueType) → HasType (types_of inputs) e ty
      → value_of inputs (reduced e) ≡ value_of inputs e
  value_same e type.Number typed =
      number_value inputs (reduced e) (number_reduced (types_of inputs) e typed)
      ∙ ap (option_map value.Scalar) (scalar_reduced e) ∙ sym (number_value inputs e typed)
  value_same (read name) (type.Rec size) typed = refl
  value_same (rec parts) (type.Rec size) typed = ap (option_map value.Rec) (scalars_reduced parts)
  value_same _ (type.Rec size) typed = absurd typed
  value_same (read name) type.Table typed = refl
  value_same _ type.Table typed = absurd typed

-- on inputs of the types that the expression is well typed for
pub value_reduced : (inputs : Inputs) (types : Types) (e : Expression) → types_of inputs ≡ types
    → IsTyped types e → value_of inputs (reduced e) ≡ value_of inputs e
value_reduced inputs types e same typed =
    value_same inputs e (type_of_expression types e)
    (subst (λ t. HasType t e (type_of_expression types e)) (sym same) typed)
