-- Statement. The items that a stream may have.
use Rattle.std.specs.Prelude.{List, [], ◌∷◌, map, FitsSigned}
use Rattle.std.specs.Int.{w64}
use Rattle.value_ops.specs.declared.field.Field.{Field}
use Rattle.value_ops.specs.declared.field.Field.TheVariants as field
use Rattle.value_ops.specs.declared.scalar.Scalar.{Scalar}
use Rattle.value_ops.specs.declared.value.Value.{Value}
use Rattle.value_ops.specs.declared.value.Value.TheVariants as value
use Rattle.value_ops.specs.declared.value.ValueType.TheVariants as values
use Rattle.value_ops.specs.Texts.{IsText}
use Rattle.value_ops.specs.Types.{IsValueOf}
use Rattle.item_schema.specs.declared.column.Column.{Column}
use Rattle.item_schema.specs.declared.column.Kind.{Kind}
use Rattle.item_schema.specs.declared.column.Kind.TheVariants.{Int, Fixed, Text, Number, Table}

-- the field is one that a column of this kind may have: a number of 64 bits, a text, or a value of
-- the type
abbrev pub IsFieldOf : Kind → Field → Type 0
IsFieldOf Int (field.Int number) = FitsSigned w64 number
IsFieldOf (Fixed digits) (field.Int number) = FitsSigned w64 number
IsFieldOf Text (field.Text bytes) = IsText bytes
IsFieldOf Number (field.Val given) = IsValueOf values.Number given
IsFieldOf Table (field.Val given) = IsValueOf values.Table given
IsFieldOf _ _ = ⊥

-- the fields of the parts of a record
abbrev pub fields_of_parts : List Scalar → List Field
fields_of_parts parts = map (λ part. field.Val (value.Scalar part)) parts

-- the fields of the item of a value: those of the parts of a record, or else the value itself
abbrev pub fields_of_value : Value → List Field
fields_of_value (value.Rec parts) = fields_of_parts parts
fields_of_value given = field.Val given ∷ []

-- the fields are those of an item of these columns
abbrev pub IsItemOf : List Column → List Field → Type 0
IsItemOf [] [] = Unit {0}
IsItemOf (column ∷ columns) (field ∷ fields) = IsFieldOf column.kind field × IsItemOf columns fields
IsItemOf _ _ = ⊥
