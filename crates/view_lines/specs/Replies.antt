-- For the prover. The row of a line, by how a session replied to it.
use Rattle.std.specs.Prelude.{ℕ, List, Option, Some, IsOk}
use Rattle.io_edge.specs.Lines.{Shown, text, long}
use Rattle.value_ops.specs.declared.value.Value.{Value}
use Rattle.item_schema.specs.declared.column.Column.{Column}
use Rattle.line_reader.specs.Reading.{item_of}
use Rattle.stream_run.specs.declared.session.Reply.{Reply}
use Rattle.stream_run.specs.declared.session.Reply.TheVariants.{Answered, Silent, Skipped}
use Rattle.view_lines.specs.Rows.{Row, row_read, silent, skipped}

-- an answer is given after items alone
abbrev pub IsReadable : List Column → List ℕ → Reply → Type 0
IsReadable columns line Answered = IsOk (item_of columns line)
IsReadable columns line _ = Unit {0}

-- the row
abbrev pub row_replied : List Column → Shown → Reply → Option Value → Row
row_replied columns line Silent value = silent
row_replied columns line (Skipped why) value = skipped line why
row_replied columns (text line) Answered value =
    row_read (text line) (Some (item_of columns line)) value
row_replied columns long Answered value = silent
