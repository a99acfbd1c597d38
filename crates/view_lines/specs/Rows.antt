-- Statement. What each line of a stream comes to in a view: a row, and the names before the first.
use Rattle.std.specs.Prelude.{ℕ, Bool, List, [], ◌∷◌, ◌++◌, Option, Some, None, Result, Ok, Err}
use Rattle.std.specs.Prelude.{if◌then◌else◌}
use Rattle.io_edge.specs.Lines.{Shown, text, long}
use Rattle.value_ops.specs.declared.field.Field.{Field}
use Rattle.value_ops.specs.declared.value.Value.{Value}
use Rattle.line_reader.specs.declared.stop.Skip.{Skip}
use Rattle.stream_run.specs.Meanings.{Meaning}
use Rattle.stream_run.specs.Output.{is_header, read_of, value_after}

-- the names of the columns; nothing, for the header and for an empty line; an item, and the value
-- after it; a line that is skipped, and why
pub data Row : Type 0 where
  names : Row
  silent : Row
  answered : List Field → Option Value → Row
  skipped : Shown → Skip → Row

-- the row of a line that was read to this, where the value after it is given
abbrev pub row_read : Shown → Option (Result (List Field) Skip) → Option Value → Row
row_read line None value = silent
row_read line (Some (Ok item)) value = answered item value
row_read line (Some (Err why)) value = skipped line why

-- the row of a line that comes after these lines
abbrev pub row_of : Meaning → List Shown → Shown → Row
row_of meaning before line =
    row_read line
    (if is_header meaning.layout before then None else read_of meaning.layout.columns line)
    (value_after meaning (before ++ line ∷ []))

-- the names come before the row of the first line of a stream; if `began`, a line has come before
-- these lines
abbrev pub names_at : Bool → List Shown → List Row
names_at began [] = if began then [] else names ∷ []
names_at began (line ∷ before) = []

-- the rows of a line that comes after these lines
abbrev pub rows_of : Bool → Meaning → List Shown → Shown → List Row
rows_of began meaning before line = names_at began before ++ row_of meaning before line ∷ []

-- the rows of lines that come after these lines
abbrev pub rows_after : Bool → Meaning → List Shown → List Shown → List Row
rows_after began meaning before [] = []
rows_after began meaning before (line ∷ rest) =
    rows_of began meaning before line ++ rows_after began meaning (before ++ line ∷ []) rest

-- the line with these bytes, or one that is too long
abbrev pub line_of : Option (List ℕ) → Shown
line_of (Some bytes) = text bytes
line_of None = long

-- a line as it was read; nothing of one that is too long
abbrev pub as_read : Shown → List ℕ
as_read (text bytes) = bytes
as_read long = []
