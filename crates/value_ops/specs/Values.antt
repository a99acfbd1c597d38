-- Statement. Which values and fields take no memory.
use Rattle.value_ops.specs.declared.field.Field.{Field}
use Rattle.value_ops.specs.declared.field.Field.TheVariants.{Int, Text, Val}
use Rattle.value_ops.specs.declared.value.Value.{Value}
use Rattle.value_ops.specs.declared.value.Value.TheVariants.{Scalar, Rec, Table}

-- the value is a scalar or a record
abbrev pub IsNoTable : Value → Type 0
IsNoTable (Scalar scalar) = Unit {0}
IsNoTable (Rec parts) = Unit {0}
IsNoTable (Table entries) = ⊥

-- the field is a number, or a value that is no table
abbrev pub TakesNoMemory : Field → Type 0
TakesNoMemory (Int number) = Unit {0}
TakesNoMemory (Text bytes) = ⊥
TakesNoMemory (Val value) = IsNoTable value
