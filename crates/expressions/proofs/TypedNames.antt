-- What names stand for is of their types.
use Rattle.std.proofs.Common.{◌≡◌, ◌≤◌, ℕ, List, length, Option, None, Some, refl, ◌∙◌, ap, sym}
use Rattle.std.proofs.Common.{subst}
use Rattle.std.specs.Prelude.{unwrap_or}
use Rattle.std.specs.List.{slice_get}
use Rattle.std.specs.Option.{option_map, option_and_then}
use Rattle.std.proofs.lemmas.Option.{slice_get-map}
use Rattle.expressions.specs.declared.expr.Var.{Var}
use Rattle.expressions.specs.declared.expr.Var.TheVariants as var
use Rattle.value_ops.specs.declared.field.Field.{Field}
use Rattle.value_ops.specs.declared.field.Field.TheVariants as field
use Rattle.value_ops.specs.declared.scalar.Scalar.{Scalar}
use Rattle.value_ops.specs.declared.value.Value.{Value}
use Rattle.value_ops.specs.declared.value.Value.TheVariants as value
use Rattle.value_ops.specs.declared.value.ValueType.{ValueType}
use Rattle.value_ops.specs.declared.value.ValueType.TheVariants as type
use Rattle.expressions.specs.Evaluation.{Inputs, value_named}
use Rattle.value_ops.specs.Fields.{value_of_field}
use Rattle.value_ops.specs.Types.{type_of}
use Rattle.expressions.specs.Typing.{HasPart, types_of, type_named}
use Rattle.value_ops.specs.Fields.{type_of_field}

-- the type of a field is that of its value
field_type : (found : Option Field)
    → option_and_then (λ type. type) (option_map type_of_field found)
    ≡ option_map type_of (value_of_field found)
field_type None = refl
field_type (Some (field.Int number)) = refl
field_type (Some (field.Text bytes)) = refl
field_type (Some (field.Val inner)) = refl

-- the type of a name is that of what it stands for
pub named : (inputs : Inputs) (name : Var)
    → type_named (types_of inputs) name ≡ option_map type_of (value_named inputs name)
named inputs (var.Field column) =
    ap (option_and_then (λ type. type)) (slice_get-map type_of_field inputs.fields column)
    ∙ field_type (slice_get inputs.fields column)
named inputs var.Left = refl
named inputs var.Right = refl

-- what has the type of a number is a scalar
scalar_from : (found : Option Value) → option_map type_of found ≡ Some type.Number
    → (scalar : Scalar) × (found ≡ Some (value.Scalar scalar))
scalar_from None typed = cc
scalar_from (Some (value.Scalar scalar)) typed = (scalar, refl)
scalar_from (Some (value.Rec parts)) typed = cc
scalar_from (Some (value.Table entries)) typed = cc

-- and what has the type of a table is one
table_from : (found : Option Value) → option_map type_of found ≡ Some type.Table
    → (entries : List (List ℕ × Scalar)) × (found ≡ Some (value.Table entries))
table_from None typed = cc
table_from (Some (value.Scalar scalar)) typed = cc
table_from (Some (value.Rec parts)) typed = cc
table_from (Some (value.Table entries)) typed = (entries, refl)

-- what has the type of a record is one, of as many scalars
record_from : (found : Option Value) (size : ℕ) → option_map type_of found ≡ Some (type.Rec size)
    → (scalars : List Scalar) × (found ≡ Some (value.Rec scalars)) × (length scalars ≡ size)
record_from None size typed = cc
record_from (Some (value.Scalar scalar)) size typed = cc
record_from (Some (value.Rec scalars)) size typed =
    let same : length scalars ≡ size = cc in (scalars, refl, same)
record_from (Some (value.Table entries)) size typed = cc

-- and what has a part is one that has it
part_from : (found : Option Value) (place : ℕ) → HasPart (option_map type_of found) place
    → (scalars : List Scalar) × (found ≡ Some (value.Rec scalars)) × (1 ≤ place)
    × (place ≤ length scalars)
part_from None place has = absurd has
part_from (Some (value.Scalar scalar)) place has = absurd has
part_from (Some (value.Rec scalars)) place has = (scalars, refl, has.0, has.1)
part_from (Some (value.Table entries)) place has = absurd has

pub table_there : (inputs : Inputs) (name : Var)
    → type_named (types_of inputs) name ≡ Some type.Table
    → (entries : List (List ℕ × Scalar)) × (value_named inputs name ≡ Some (value.Table entries))
table_there inputs name typed =
    table_from (value_named inputs name) (sym (named inputs name) ∙ typed)

pub scalar_named : (inputs : Inputs) (name : Var)
    → type_named (types_of inputs) name ≡ Some type.Number
    → (scalar : Scalar) × (value_named inputs name ≡ Some (value.Scalar scalar))
scalar_named inputs name typed =
    scalar_from (value_named inputs name) (sym (named inputs name) ∙ typed)

pub record_there : (inputs : Inputs) (name : Var) (size : ℕ)
    → type_named (types_of inputs) name ≡ Some (type.Rec size)
    → (scalars : List Scalar) × (value_named inputs name ≡ Some (value.Rec scalars))
    × (length scalars ≡ size)
record_there inputs name size typed =
    record_from (value_named inputs name) size (sym (named inputs name) ∙ typed)

pub part_there : (inputs : Inputs) (name : Var) (place : ℕ)
    → HasPart (type_named (types_of inputs) name) place
    → (scalars : List Scalar) × (value_named inputs name ≡ Some (value.Rec scalars)) × (1 ≤ place)
    × (place ≤ length scalars)
part_there inputs name place has =
    part_from (value_named inputs name) place
    (subst (λ (type : Option ValueType). HasPart type place) (named inputs name) has)

-- what is inside is the same
pub same_inside : {A : Type 0} (a b : A) → Some a ≡ Some b → a ≡ b
same_inside a b same = ap (λ option. unwrap_or option a) same
