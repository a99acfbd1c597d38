-- Statement. The types of queries.
use Rattle.std.specs.Prelude.{List, [], map, Option, Some, None}
use Rattle.value_ops.specs.declared.value.ValueType.{ValueType}
use Rattle.value_ops.specs.declared.value.ValueType.TheVariants.{Number, Rec, Table}
use Rattle.expressions.specs.Expressions as expr
use Rattle.expressions.specs.Expressions.{Expression, count_of}
use Rattle.expressions.specs.Typing.{Types, type_named}
use Rattle.item_schema.specs.declared.column.Column.{Column}
use Rattle.item_schema.specs.declared.column.Kind.{Kind}
use Rattle.item_schema.specs.declared.column.Kind.TheVariants as kind
use Rattle.item_schema.specs.Layout.{Layout, derived_layout}
use Rattle.query_model.specs.Queries.{Qre, atom, eps, choice, split, iter, combine, apply, compose}
use Rattle.query_model.specs.Queries.{collect}

-- the type of what stands in a column; a text has none
abbrev pub type_of_kind : Kind → Option ValueType
type_of_kind kind.Int = Some Number
type_of_kind (kind.Fixed digits) = Some Number
type_of_kind kind.Text = None
type_of_kind kind.Number = Some Number
type_of_kind kind.Table = Some Table

-- the types of the names that an expression of an atom may use
abbrev pub of_columns : List Column → Types
of_columns columns = record {
  fields = map (λ column. type_of_kind column.kind) columns;
  left = None;
  right = None;
}

-- of one value, and of two
abbrev pub of_one : ValueType → Types
of_one left = record { fields = []; left = Some left; right = None }

abbrev pub of_two : ValueType → ValueType → Types
of_two left right = record { fields = []; left = Some left; right = Some right }

-- the type that a name has if it has one
abbrev pub type_or_number : Option ValueType → ValueType
type_or_number (Some type) = type
type_or_number None = Number

-- the type that an expression has if it is well typed
abbrev pub type_of_expression : Types → Expression → ValueType
type_of_expression types (expr.read name) = type_or_number (type_named types name)
type_of_expression types (expr.rec parts) = Rec (count_of parts)
type_of_expression types _ = Number

-- the columns of a stream of values
abbrev pub derived_columns : ValueType → List Column
derived_columns type = let layout : Layout = derived_layout type in layout.columns

-- the type of the values of a query on items of these columns
abbrev pub type_of : List Column → Qre → ValueType
type_of columns (atom pred expression) = type_of_expression (of_columns columns) expression
type_of columns (eps number) = Number
type_of columns (choice f g) = type_of columns f
type_of columns (split f g expression) =
    type_of_expression (of_two (type_of columns f) (type_of columns g)) expression
type_of columns (iter f number expression) = Number
type_of columns (combine f g expression) =
    type_of_expression (of_two (type_of columns f) (type_of columns g)) expression
type_of columns (apply f expression) = type_of_expression (of_one (type_of columns f)) expression
type_of columns (compose f g) = type_of (derived_columns (type_of columns f)) g
type_of columns (collect chosen sync rate f) = Table
