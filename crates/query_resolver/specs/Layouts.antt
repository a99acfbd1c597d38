-- Statement. The columns that a stream declares.
use Rattle.std.specs.Prelude.{Bool, false, true, map}
use Rattle.item_schema.specs.Layout.{Layout}
use Rattle.item_schema.specs.declared.column.Column.{Column}
use Rattle.item_schema.specs.declared.column.Kind.{Kind}
use Rattle.item_schema.specs.declared.column.Kind.TheVariants.{Int, Fixed, Text}
use Rattle.query_syntax.specs.Programs.{Stream}
use Rattle.query_syntax.specs.declared.stream.Column as syntax
use Rattle.query_syntax.specs.declared.stream.Kind as kind
use Rattle.query_syntax.specs.declared.stream.Kind.TheVariants as kinds
use Rattle.query_syntax.specs.declared.stream.Mode.{Mode}
use Rattle.query_syntax.specs.declared.stream.Mode.TheVariants.{Plain, Header}

-- what the fields of a column are
abbrev pub kind_of : kind.Kind → Kind
kind_of (kinds.Int span) = Int
kind_of (kinds.Text span) = Text
kind_of (kinds.Fixed digits span) = Fixed digits.count

-- a column of the items
abbrev pub column_of : syntax.Column → Column
column_of column = record { name = column.name.bytes; kind = kind_of column.kind }

-- a header line comes before the items
abbrev pub has_header : Mode → Bool
has_header (Plain span) = false
has_header (Header span) = true

-- the columns of the items, and whether a header line comes before them
abbrev pub layout_of : Stream → Layout
layout_of stream =
    record { has_header = has_header stream.mode; columns = map column_of stream.columns }
