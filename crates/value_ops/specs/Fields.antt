-- Statement. What a field says, whatever the kind of its column.
use Rattle.std.specs.Prelude.{ℕ, List, Option, Some, None, option_map}
use Rattle.value_ops.specs.declared.field.Field.{Field}
use Rattle.value_ops.specs.declared.field.Field.TheVariants.{Int, Text, Val}
use Rattle.value_ops.specs.declared.scalar.Scalar.{Scalar}
use Rattle.value_ops.specs.declared.scalar.Scalar.TheVariants.{Number}
use Rattle.value_ops.specs.declared.value.Value.{Value}
use Rattle.value_ops.specs.declared.value.Value.TheVariants as value
use Rattle.value_ops.specs.declared.value.ValueType.{ValueType}
use Rattle.value_ops.specs.Types.{type_of}

-- the number of a whole number or of a value, or why the value has none
abbrev pub scalar_of : Field → Option Scalar
scalar_of (Int number) = Some (Number number)
scalar_of (Text bytes) = None
scalar_of (Val (value.Scalar scalar)) = Some scalar
scalar_of (Val (value.Rec parts)) = None
scalar_of (Val (value.Table entries)) = None

-- the bytes of a text
abbrev pub text_of : Field → Option (List ℕ)
text_of (Int number) = None
text_of (Text bytes) = Some bytes
text_of (Val value) = None

-- the value of a field: a text has none
abbrev pub value_of_field : Option Field → Option Value
value_of_field (Some (Int number)) = Some (value.Scalar (Number number))
value_of_field (Some (Val inner)) = Some inner
value_of_field _ = None

-- the type of a field, if it has one
abbrev pub type_of_field : Field → Option ValueType
type_of_field field = option_map type_of (value_of_field (Some field))
