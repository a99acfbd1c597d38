-- No value of a number query is a table, nor is one of its operands.
use Rattle.std.proofs.Common.{◌≡◌, ◌≢◌, ℕ, zero, suc, true, IsTrue, List, [], ◌∷◌, ◌++◌, map, refl}
use Rattle.std.specs.Prelude.{slice_get}
use Rattle.std.specs.List.{list_all}
use Rattle.std.specs.Option.{option_and_then}
use Rattle.expressions.specs.declared.expr.Var.{Var}
use Rattle.expressions.specs.declared.expr.Var.TheVariants as var
use Rattle.value_ops.specs.declared.value.ValueType.{ValueType}
use Rattle.value_ops.specs.declared.value.ValueType.TheVariants.{Number, Rec, Table}
use Rattle.expressions.specs.Expressions as expr
use Rattle.expressions.specs.Expressions.{Expression}
use Rattle.expressions.specs.Typing.{type_named}
use Rattle.item_schema.specs.declared.column.Column.{Column}
use Rattle.item_schema.specs.declared.column.Kind.{Kind}
use Rattle.item_schema.specs.declared.column.Kind.TheVariants as kind
use Rattle.item_schema.specs.Layout.{is_read, part_column, part_columns}
use Rattle.query_model.specs.Queries.{Qre, atom, eps, choice, split, iter, combine, apply, compose}
use Rattle.query_model.specs.Queries.{collect}
use Rattle.query_model.specs.QueryTypes.{derived_columns, of_columns, of_one, of_two}
use Rattle.query_model.specs.QueryTypes.{type_or_number, type_of, type_of_expression, type_of_kind}
use Rattle.query_model.specs.Rules.{HasNoCollect}
use Rattle.step_laws.specs.Numbers.{HasNoTables, IsNumberQuery}
use Rattle.step_laws.proofs.StoredTracks.{and_first, and_second}

kind_no_table : (k : Kind) → (k ≡ kind.Table → ⊥) → type_or_number (type_of_kind k) ≢ Table
kind_no_table kind.Int none = λ is. cc
kind_no_table (kind.Fixed digits) none = λ is. cc
kind_no_table kind.Text none = λ is. cc
kind_no_table kind.Number none = λ is. cc
kind_no_table kind.Table none = absurd (none refl)

field_no_table : (columns : List Column) (i : ℕ) → HasNoTables columns
    → type_or_number (option_and_then (λ found. found)
    (slice_get (map (λ (column : Column). type_of_kind column.kind) columns) i)) ≢ Table
field_no_table [] i none = λ is. cc
field_no_table (column ∷ columns) zero none = kind_no_table column.kind none.0
field_no_table (column ∷ columns) (suc i) none = field_no_table columns i none.1

item_no_table : (columns : List Column) (name : Var) → HasNoTables columns
    → type_or_number (type_named (of_columns columns) name) ≢ Table
item_no_table columns (var.Field i) none = field_no_table columns i none
item_no_table columns var.Left none = λ is. cc
item_no_table columns var.Right none = λ is. cc

two_no_table : (a b : ValueType) (name : Var) → a ≢ Table → b ≢ Table
    → type_or_number (type_named (of_two a b) name) ≢ Table
two_no_table a b (var.Field i) first second = λ is. cc
two_no_table a b var.Left first second = first
two_no_table a b var.Right first second = second

one_no_table : (a : ValueType) (name : Var) → a ≢ Table
    → type_or_number (type_named (of_one a) name) ≢ Table
one_no_table a (var.Field i) none = λ is. cc
one_no_table a var.Left none = none
one_no_table a var.Right none = λ is. cc

-- an expression over an item, over one value, and over two
on_item : (columns : List Column) (e : Expression) → HasNoTables columns
    → type_of_expression (of_columns columns) e ≢ Table
on_item columns (expr.read name) none = item_no_table columns name none
on_item columns e none = λ is. cc

on_one : (a : ValueType) (e : Expression) → a ≢ Table → type_of_expression (of_one a) e ≢ Table
on_one a (expr.read name) none = one_no_table a name none
on_one a e none = λ is. cc

on_two : (a b : ValueType) (e : Expression) → a ≢ Table → b ≢ Table
    → type_of_expression (of_two a b) e ≢ Table
on_two a b (expr.read name) first second = two_no_table a b name first second
on_two a b e first second = λ is. cc

-- the stream of values that are no tables
with_part : (columns : List Column) (column : Column) → HasNoTables columns
    → (column.kind ≡ kind.Table → ⊥) → HasNoTables (columns ++ column ∷ [])
with_part [] column all last = (last, tt)
with_part (first ∷ columns) column all last = (all.0, with_part columns column all.1 last)

parts_none : (size : ℕ) → HasNoTables (part_columns size)
parts_none zero = tt
parts_none (suc size) =
    with_part (part_columns size) (part_column size) (parts_none size) (λ is. cc)

derived_none : (type : ValueType) → type ≢ Table → HasNoTables (derived_columns type)
derived_none Number none = (λ is. cc, tt)
derived_none (Rec size) none = parts_none size
derived_none Table none = absurd (none refl)

pub number_type : (columns : List Column) (q : Qre) → HasNoCollect q → HasNoTables columns
    → type_of columns q ≢ Table
number_type columns (atom pred e) bare none = on_item columns e none
number_type columns (eps number) bare none = λ is. cc
number_type columns (choice f g) bare none = number_type columns f bare.0 none
number_type columns (split f g e) bare none =
    on_two (type_of columns f) (type_of columns g) e (number_type columns f bare.0 none)
    (number_type columns g bare.1 none)
number_type columns (iter f number e) bare none = λ is. cc
number_type columns (combine f g e) bare none =
    on_two (type_of columns f) (type_of columns g) e (number_type columns f bare.0 none)
    (number_type columns g bare.1 none)
number_type columns (apply f e) bare none =
    on_one (type_of columns f) e (number_type columns f bare none)
number_type columns (compose f g) bare none =
    number_type (derived_columns (type_of columns f)) g bare.1
    (derived_none (type_of columns f) (number_type columns f bare.0 none))
number_type columns (collect chosen sync rate f) bare none = absurd bare

-- what comes out of it is a stream without tables
pub out_numbers : (columns : List Column) (f g : Qre) → IsNumberQuery columns (compose f g)
    → IsNumberQuery (derived_columns (type_of columns f)) g
out_numbers columns f g is = record {
  no_collect = is.no_collect.1;
  no_tables = derived_none (type_of columns f) (number_type columns f is.no_collect.0 is.no_tables);
}

-- columns that are read from lines have none
read_kind : (k : Kind) → is_read k ≡ true → k ≡ kind.Table → ⊥
read_kind k read is = cc

pub read_numbers : (columns : List Column) → IsTrue (list_all (λ c. is_read c.kind) columns)
    → HasNoTables columns
read_numbers [] read = tt
read_numbers (column ∷ columns) read = (
  read_kind column.kind
      (and_first (is_read column.kind) (list_all (λ (c : Column). is_read c.kind) columns) read),
  read_numbers columns
      (and_second (is_read column.kind) (list_all (λ (c : Column). is_read c.kind) columns) read),
)
