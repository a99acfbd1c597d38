-- An expression with another for its left value gives, on a value, what it gives on what the other
-- one gives on it.
use Rattle.std.proofs.Common.{◌≡◌, ◌∙◌, ◌+◌, pos, false, List, [], length, Option}
use Rattle.std.proofs.Common.{None, Some, refl, ap, sym, subst}
use Rattle.std.specs.Option.{option_and_then, option_map}
use Rattle.std.proofs.lemmas.Bool.{or_parts}
use Rattle.expressions.specs.declared.expr.Var.{Var}
use Rattle.expressions.specs.declared.expr.Var.TheVariants as var
use Rattle.value_ops.specs.declared.scalar.Scalar.{Scalar}
use Rattle.value_ops.specs.declared.value.Value.{Value}
use Rattle.value_ops.specs.declared.value.Value.TheVariants as value
use Rattle.value_ops.specs.declared.value.ValueType.{ValueType}
use Rattle.value_ops.specs.declared.value.ValueType.TheVariants as type
use Rattle.expressions.specs.Evaluation.{Inputs, chosen_of, given, least_of, most_of, of_both}
use Rattle.expressions.specs.Evaluation.{part_at}
use Rattle.expressions.specs.Evaluation.{record_in, scalar_at, scalar_in, scalar_of, scalars_of}
use Rattle.expressions.specs.Evaluation.{sum_of, table_in, value_named, value_of}
use Rattle.expressions.specs.Expressions.{Expression, literal, read, unary, binary, choice, sum}
use Rattle.expressions.specs.Expressions.{count, most, least, entry, rec, part, Expressions, none}
use Rattle.expressions.specs.Expressions.{more, count_of}
use Rattle.value_ops.specs.Operators.{binary_of, unary_of}
use Rattle.value_ops.specs.Scalar.{in_range}
use Rattle.expressions.specs.Typing.{AreNumbers, HasPart, HasType, IsNumber, type_named}
use Rattle.query_model.specs.Denotation.{on_one}
use Rattle.query_model.specs.QueryTypes.{of_one}
use Rattle.query_model.proofs.Inside.{same_inside}
use Rattle.query_rewrite.specs.Filling.{any_names_left, each_filled, filled, is_left, names_left}

-- what the left value is filled in for itself is left as it is
mutual
  pub filled_self : (d : Expression) → filled (read var.Left) d ≡ d
  filled_self (literal number) = refl
  filled_self (read var.Left) = refl
  filled_self (read var.Right) = refl
  filled_self (read (var.Field column)) = refl
  filled_self (unary op first) = ap (unary op) (filled_self first)
  filled_self (binary op first second) =
      λ i. binary op (filled_self first i) (filled_self second i)
  filled_self (choice test first second met other) =
      λ i. choice test (filled_self first i) (filled_self second i) (filled_self met i)
      (filled_self other i)
  filled_self (sum name) = refl
  filled_self (count name) = refl
  filled_self (most name first) = ap (most name) (filled_self first)
  filled_self (least name first) = ap (least name) (filled_self first)
  filled_self (entry name key other) = ap (entry name key) (filled_self other)
  filled_self (rec parts) = ap rec (each_self parts)
  filled_self (part name place) = refl

  each_self : (parts : Expressions) → each_filled (read var.Left) parts ≡ parts
  each_self none = refl
  each_self (more first rest) = λ i. more (filled_self first i) (each_self rest i)

-- Types. The names of table forms and parts are not the left value, so they stand for what
-- they stood for.

other_type : (given ty : ValueType) (name : Var) → is_left name ≡ false
    → type_named (of_one ty) name ≡ type_named (of_one given) name
other_type given ty var.Left other = cc
other_type given ty var.Right other = refl
other_type given ty (var.Field column) other = refl

module _ (given ty : ValueType) (e : Expression) (typed : HasType (of_one given) e ty) where
  filled_number : (d : Expression) → names_left d ≡ false → IsNumber (of_one ty) d
      → IsNumber (of_one given) (filled e d)
  filled_number (literal number) other is = is
  filled_number (read var.Left) other is =
      subst (HasType (of_one given) e) (same_inside ty type.Number is) typed
  filled_number (read var.Right) other is = is
  filled_number (read (var.Field column)) other is = is
  filled_number (unary op first) other is = filled_number first other is
  filled_number (binary op first second) other is =
      let others = or_parts (names_left first) (names_left second) other in
      (filled_number first others.0 is.0, filled_number second others.1 is.1)
  filled_number (choice test first second met rest) other is =
      let others = or_parts _ _ other in
      let compared = or_parts (names_left first) (names_left second) others.0 in
      let branches = or_parts (names_left met) (names_left rest) others.1 in (
        filled_number first compared.0 is.0,
        filled_number second compared.1 is.1,
        filled_number met branches.0 is.2,
        filled_number rest branches.1 is.3,
      )
  filled_number (sum name) other is =
      subst (λ t. t ≡ Some type.Table) (other_type given ty name other) is
  filled_number (count name) other is =
      subst (λ t. t ≡ Some type.Table) (other_type given ty name other) is
  filled_number (most name first) other is =
      let others = or_parts (is_left name) (names_left first) other in (
        subst (λ t. t ≡ Some type.Table) (other_type given ty name others.0) is.0,
        filled_number first others.1 is.1,
      )
  filled_number (least name first) other is =
      let others = or_parts (is_left name) (names_left first) other in (
        subst (λ t. t ≡ Some type.Table) (other_type given ty name others.0) is.0,
        filled_number first others.1 is.1,
      )
  filled_number (entry name key rest) other is =
      let others = or_parts (is_left name) (names_left rest) other in (
        subst (λ t. t ≡ Some type.Table) (other_type given ty name others.0) is.0,
        filled_number rest others.1 is.1,
      )
  filled_number (rec parts) other is = absurd is
  filled_number (part name place) other is =
      subst (λ t. HasPart t place) (other_type given ty name other) is

  filled_numbers : (parts : Expressions) → any_names_left parts ≡ false
      → AreNumbers (of_one ty) parts → AreNumbers (of_one given) (each_filled e parts)
  filled_numbers none other are = tt
  filled_numbers (more first rest) other are =
      let others = or_parts (names_left first) (any_names_left rest) other in
      (filled_number first others.0 are.0, filled_numbers rest others.1 are.1)

  as_many : (parts : Expressions) → count_of (each_filled e parts) ≡ count_of parts
  as_many none = refl
  as_many (more first rest) = ap (λ n. n + 1) (as_many rest)

  pub filled_type : (d : Expression) (result : ValueType) → names_left d ≡ false
      → HasType (of_one ty) d result → HasType (of_one given) (filled e d) result
  filled_type d type.Number other is = filled_number d other is
  filled_type (read var.Left) (type.Rec size) other is =
      subst (HasType (of_one given) e) (same_inside ty (type.Rec size) is) typed
  filled_type (read var.Right) (type.Rec size) other is = is
  filled_type (read (var.Field column)) (type.Rec size) other is = is
  filled_type (rec parts) (type.Rec size) other is =
      (as_many parts ∙ is.0, is.1, filled_numbers parts other is.2)
  filled_type _ (type.Rec size) other is = absurd is
  filled_type (read var.Left) type.Table other is =
      subst (HasType (of_one given) e) (same_inside ty type.Table is) typed
  filled_type (read var.Right) type.Table other is = is
  filled_type (read (var.Field column)) type.Table other is = is
  filled_type _ type.Table other is = absurd is

-- Values.

-- the scalar that an expression gives is the one that its value is
some_scalar : (s : Option Scalar) → scalar_in (option_map value.Scalar s) ≡ s
some_scalar None = refl
some_scalar (Some scalar) = refl

no_scalar : (s : Option (List Scalar)) → scalar_in (option_map value.Rec s) ≡ None
no_scalar None = refl
no_scalar (Some scalars) = refl

scalar_inside : (inputs : Inputs) (e : Expression)
    → scalar_in (value_of inputs e) ≡ scalar_of inputs e
scalar_inside inputs (read name) = refl
scalar_inside inputs (rec parts) = no_scalar (scalars_of inputs parts)
scalar_inside inputs (literal number) = refl
scalar_inside inputs (unary op inner) = some_scalar _
scalar_inside inputs (binary op first second) = some_scalar _
scalar_inside inputs (choice test first second met other) = some_scalar _
scalar_inside inputs (sum name) = some_scalar _
scalar_inside inputs (count name) = some_scalar _
scalar_inside inputs (most name first) = some_scalar _
scalar_inside inputs (least name first) = some_scalar _
scalar_inside inputs (entry name key other) = some_scalar _
scalar_inside inputs (part name place) = some_scalar _

-- one value as what names stand for
abbrev of_value : Value → Inputs
of_value x = given [] (Some x) None

other_value : (x y : Value) (name : Var) → is_left name ≡ false
    → value_named (of_value x) name ≡ value_named (of_value y) name
other_value x y var.Left other = cc
other_value x y var.Right other = refl
other_value x y (var.Field column) other = refl

module _ (e : Expression) (x y : Value) (gives : on_one e x ≡ Some y) where
  filled_scalar : (d : Expression) → names_left d ≡ false
      → scalar_of (of_value x) (filled e d) ≡ scalar_of (of_value y) d
  filled_scalar (literal number) other = refl
  filled_scalar (read var.Left) other = sym (scalar_inside (of_value x) e) ∙ ap scalar_in gives
  filled_scalar (read var.Right) other = refl
  filled_scalar (read (var.Field column)) other = refl
  filled_scalar (unary op first) other = ap (option_map (unary_of op)) (filled_scalar first other)
  filled_scalar (binary op first second) other =
      let others = or_parts (names_left first) (names_left second) other in
      λ i. of_both (binary_of op) (filled_scalar first others.0 i)
      (filled_scalar second others.1 i)
  filled_scalar (choice test first second met rest) other =
      let others = or_parts _ _ other in
      let compared = or_parts (names_left first) (names_left second) others.0 in
      let branches = or_parts (names_left met) (names_left rest) others.1 in
      λ i. chosen_of test (filled_scalar first compared.0 i) (filled_scalar second compared.1 i)
      (filled_scalar met branches.0 i) (filled_scalar rest branches.1 i)
  filled_scalar (sum name) other =
      ap (λ v. option_map sum_of (table_in v)) (other_value x y name other)
  filled_scalar (count name) other =
      ap (λ v. option_map (λ entries. in_range (pos (length entries))) (table_in v))
      (other_value x y name other)
  filled_scalar (most name first) other =
      let others = or_parts (is_left name) (names_left first) other in
      λ i. of_both most_of (filled_scalar first others.1 i)
      (table_in (other_value x y name others.0 i))
  filled_scalar (least name first) other =
      let others = or_parts (is_left name) (names_left first) other in
      λ i. of_both least_of (filled_scalar first others.1 i)
      (table_in (other_value x y name others.0 i))
  filled_scalar (entry name key rest) other =
      let others = or_parts (is_left name) (names_left rest) other in
      λ i. scalar_at key (filled_scalar rest others.1 i)
      (table_in (other_value x y name others.0 i))
  filled_scalar (rec parts) other = refl
  filled_scalar (part name place) other =
      ap (λ v. option_and_then (part_at place) (record_in v)) (other_value x y name other)

  filled_scalars : (parts : Expressions) → any_names_left parts ≡ false
      → scalars_of (of_value x) (each_filled e parts) ≡ scalars_of (of_value y) parts
  filled_scalars none other = refl
  filled_scalars (more first rest) other =
      let others = or_parts (names_left first) (any_names_left rest) other in
      rw (filled_scalar first others.0, filled_scalars rest others.1) refl

  scalar_filled : (d : Expression) → names_left d ≡ false
      → option_map value.Scalar (scalar_of (of_value x) (filled e d))
      ≡ option_map value.Scalar (scalar_of (of_value y) d)
  scalar_filled d other = ap (option_map value.Scalar) (filled_scalar d other)

  pub filled_value : (d : Expression) → names_left d ≡ false
      → on_one (filled e d) x ≡ on_one d y
  filled_value (literal number) other = refl
  filled_value (read var.Left) other = gives
  filled_value (read var.Right) other = refl
  filled_value (read (var.Field column)) other = refl
  filled_value (unary op first) other = scalar_filled (unary op first) other
  filled_value (binary op first second) other = scalar_filled (binary op first second) other
  filled_value (choice test first second met rest) other =
      scalar_filled (choice test first second met rest) other
  filled_value (sum name) other = scalar_filled (sum name) other
  filled_value (count name) other = scalar_filled (count name) other
  filled_value (most name first) other = scalar_filled (most name first) other
  filled_value (least name first) other = scalar_filled (least name first) other
  filled_value (entry name key rest) other = scalar_filled (entry name key rest) other
  filled_value (rec parts) other = ap (option_map value.Rec) (filled_scalars parts other)
  filled_value (part name place) other = scalar_filled (part name place) other
