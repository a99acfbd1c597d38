-- Statement. The names in the text of a query: those of columns, `x` and `y` for the values that an
-- expression is given, and `q1`, `q2` and so on for the lets.
use Rattle.std.specs.Prelude.{ℕ, ◌+◌, ◌==◌, pos, List, [], ◌++◌, codes, Option, Some, None}
use Rattle.std.specs.Prelude.{if◌then◌else◌, slice_get}
use Rattle.std.specs.Fmt.{signed_decimal}
use Rattle.query_parser.specs.Printing.{nowhere}
use Rattle.query_syntax.specs.declared.leaf.Name.{Name}
use Rattle.expressions.specs.declared.expr.Var.{Var}
use Rattle.expressions.specs.declared.expr.Var.TheVariants as var
use Rattle.item_schema.specs.declared.column.Column.{Column}

-- the name of a column that is there
abbrev pub name_of : Option Column → List ℕ
name_of (Some column) = column.name
name_of None = []

-- the name of the column at a place
abbrev pub column_name : List Column → ℕ → List ℕ
column_name columns place = name_of (slice_get columns place)

-- what the fields of items are called: those of a stream by its columns, and those of a stream of
-- values of this width `value` alone, or `value1`, `value2` and so on
pub data Naming : Type 0 where
  of_columns : List Column → Naming
  of_values : ℕ → Naming

-- the name of the field at a place
abbrev pub field_name : Naming → ℕ → List ℕ
field_name (of_columns columns) place = column_name columns place
field_name (of_values width) place =
    if width == 1 then codes "value" else codes "value" ++ signed_decimal (pos (place + 1))

-- the name that stands for what an expression reads
abbrev pub var_name : Naming → Var → List ℕ
var_name naming (var.Field place) = field_name naming place
var_name naming var.Left = codes "x"
var_name naming var.Right = codes "y"

-- the name of the let at a place
abbrev pub let_name : ℕ → List ℕ
let_name place = codes "q" ++ signed_decimal (pos (place + 1))

-- a name as it is written, wherever it stands
abbrev pub named : List ℕ → Name
named bytes = record { bytes = bytes; span = nowhere }
