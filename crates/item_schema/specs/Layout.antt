-- Statement. The columns of a stream.
use Rattle.std.specs.Prelude.{◌≤◌, ◌<◌, ◌+◌, ◌&&◌, ℕ, zero, suc, not, nat_le, nat_lt, Bool, true}
use Rattle.std.specs.Prelude.{false, List, [], ◌∷◌, ◌++◌, length, codes, IsTrue}
use Rattle.std.specs.List.{list_all, list_any}
use Rattle.std.specs.Str.{bytes_eq}
use Rattle.language_base.specs.Limits.{max_columns}
use Rattle.value_ops.specs.declared.value.ValueType.{ValueType}
use Rattle.value_ops.specs.declared.value.ValueType.TheVariants as values
use Rattle.item_schema.specs.declared.column.Column.{Column}
use Rattle.item_schema.specs.declared.column.Kind.{Kind}
use Rattle.item_schema.specs.declared.column.Kind.TheVariants.{Int, Fixed, Text, Number, Table}

-- the columns, and whether a header line comes before the items
pub record Layout : Type 0 where
  pub has_header : Bool
  pub columns : List Column

-- a fixed point has 1 to 9 digits after it
abbrev pub has_digits : Kind → Bool
has_digits Int = true
has_digits (Fixed digits) = nat_le 1 digits && nat_le digits 9
has_digits Text = true
has_digits Number = true
has_digits Table = true

-- fields of this kind are read from lines
abbrev pub is_read : Kind → Bool
is_read Int = true
is_read (Fixed digits) = true
is_read Text = true
is_read Number = false
is_read Table = false

-- no two columns have one name
abbrev pub are_distinct : List Column → Bool
are_distinct [] = true
are_distinct (column ∷ columns) =
    not (list_any (λ c. bytes_eq column.name c.name) columns) && are_distinct columns

-- at least one column, not too many, and each with a name of its own
pub record IsLayout (columns : List Column) : Type 0 where
  pub some : 0 < length columns
  pub few : length columns ≤ max_columns
  pub distinct : IsTrue (are_distinct columns)
  pub digits : IsTrue (list_all (λ c. has_digits c.kind) columns)

-- the same as a test, of columns that are all read from lines
abbrev pub are_columns : List Column → Bool
are_columns columns =
    nat_lt 0 (length columns) && nat_le (length columns) max_columns && are_distinct columns
    && list_all (λ c. has_digits c.kind && is_read c.kind) columns

-- the column of the part at a place, counted from 0: `value1`, `value2` and so on up to `value8`
abbrev pub part_column : ℕ → Column
part_column place = record { name = codes "value" ++ (49 + place) ∷ []; kind = Number }

-- the columns of this many parts
abbrev pub part_columns : ℕ → List Column
part_columns zero = []
part_columns (suc place) = part_columns place ++ part_column place ∷ []

-- the columns that have values of this type: one, `value`, or one for each part of a record
abbrev pub columns_of_values : ValueType → List Column
columns_of_values values.Number = record { name = codes "value"; kind = Number } ∷ []
columns_of_values (values.Rec size) = part_columns size
columns_of_values values.Table = record { name = codes "value"; kind = Table } ∷ []

-- a stream of values that another query gives: no header, and the columns of its values
abbrev pub derived_layout : ValueType → Layout
derived_layout ty = record { has_header = false; columns = columns_of_values ty }
