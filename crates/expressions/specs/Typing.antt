-- Statement. The types of expressions.
use Rattle.std.specs.Prelude.{◌≡◌, ◌≤◌, ℕ, List, map, Option, Some, slice_get, FitsSigned}
use Rattle.std.specs.Int.{w64}
use Rattle.std.specs.Option.{option_map, option_and_then}
use Rattle.expressions.specs.declared.expr.Var.{Var}
use Rattle.expressions.specs.declared.expr.Var.TheVariants as var
use Rattle.value_ops.specs.declared.field.Field.{Field}
use Rattle.value_ops.specs.declared.value.Value.{Value}
use Rattle.value_ops.specs.declared.value.ValueType.{ValueType}
use Rattle.value_ops.specs.declared.value.ValueType.TheVariants as type
use Rattle.expressions.specs.Evaluation.{Inputs, value_named}
use Rattle.value_ops.specs.Fields.{type_of_field}
use Rattle.few_parts.specs.Sizes.{IsRecordSize}
use Rattle.value_ops.specs.Types.{IsValueOf, type_of}
use Rattle.expressions.specs.Expressions.{Expression, literal, read, unary, binary, choice, sum}
use Rattle.expressions.specs.Expressions.{count, most, least, entry, rec, part, Expressions, none}
use Rattle.expressions.specs.Expressions.{more, count_of}

-- the types of what names stand for; a text has none
pub record Types : Type 0 where
  pub fields : List (Option ValueType)
  pub left : Option ValueType
  pub right : Option ValueType

-- the types of what names stand for, on these inputs
abbrev pub types_of : Inputs → Types
types_of inputs = record {
  fields = map type_of_field inputs.fields;
  left = option_map type_of inputs.left;
  right = option_map type_of inputs.right;
}

-- the type of what a name stands for
abbrev pub type_named : Types → Var → Option ValueType
type_named types (var.Field column) =
    option_and_then (λ found. found) (slice_get types.fields column)
type_named types var.Left = types.left
type_named types var.Right = types.right

-- a record that has a part at this place, counted from 1
abbrev pub HasPart : Option ValueType → ℕ → Type 0
HasPart (Some (type.Rec size)) place = (1 ≤ place) × (place ≤ size)
HasPart _ place = ⊥

-- Well typed, and a number: literals are of 64 bits, operators, comparisons and branches
-- take numbers, the table forms a name of a table, and a part is one of the record that
-- its name stands for.
abbrev pub IsNumber : Types → Expression → Type 0
IsNumber types (literal number) = FitsSigned w64 number
IsNumber types (read name) = type_named types name ≡ Some type.Number
IsNumber types (unary op inner) = IsNumber types inner
IsNumber types (binary op first second) = IsNumber types first × IsNumber types second
IsNumber types (choice test first second met other) =
    IsNumber types first × IsNumber types second × IsNumber types met × IsNumber types other
IsNumber types (sum name) = type_named types name ≡ Some type.Table
IsNumber types (count name) = type_named types name ≡ Some type.Table
IsNumber types (most name first) = (type_named types name ≡ Some type.Table) × IsNumber types first
IsNumber types (least name first) = (type_named types name ≡ Some type.Table) × IsNumber types first
IsNumber types (entry name key other) =
    (type_named types name ≡ Some type.Table) × IsNumber types other
IsNumber types (rec parts) = ⊥
IsNumber types (part name place) = HasPart (type_named types name) place

-- the same of each
abbrev pub AreNumbers : Types → Expressions → Type 0
AreNumbers types none = Unit {0}
AreNumbers types (more first rest) = IsNumber types first × AreNumbers types rest

-- well typed, and a record of this many numbers: a bare name of one, or as many numbers
abbrev pub IsRecordOf : Types → ℕ → Expression → Type 0
IsRecordOf types size (read name) = type_named types name ≡ Some (type.Rec size)
IsRecordOf types size (rec parts) =
    (count_of parts ≡ size) × IsRecordSize size × AreNumbers types parts
IsRecordOf types size _ = ⊥

-- well typed, and a table: a bare name of one
abbrev pub IsTableName : Types → Expression → Type 0
IsTableName types (read name) = type_named types name ≡ Some type.Table
IsTableName types _ = ⊥

-- well typed, of this type
abbrev pub HasType : Types → Expression → ValueType → Type 0
HasType types expression type.Number = IsNumber types expression
HasType types expression (type.Rec size) = IsRecordOf types size expression
HasType types expression type.Table = IsTableName types expression

-- what each name stands for is a value that there is
abbrev pub AreValues : Inputs → Type 0
AreValues inputs = (name : Var) (value : Value) → value_named inputs name ≡ Some value
    → IsValueOf (type_of value) value
