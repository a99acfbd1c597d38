-- Statement. What a drill reports of a query: the answers to items that a seed draws, summed up.
use Rattle.std.specs.Prelude.{ℕ, true, List, [], ◌∷◌, ◌++◌, length, count_by, is_some}
use Rattle.std.specs.Prelude.{if◌then◌else◌, Option, Some, None, Result, Ok}
use Rattle.io_edge.specs.Lines.{Shown, lines}
use Rattle.value_ops.specs.declared.field.Field.{Field}
use Rattle.value_ops.specs.declared.value.Value.{Value}
use Rattle.line_reader.specs.declared.stop.Skip.{Skip}
use Rattle.item_drill.specs.Lines.{drill_bytes}
use Rattle.report_writer.specs.Texts.{drill_text}
use Rattle.stream_run.specs.Meanings.{Meaning}
use Rattle.stream_run.specs.Output.{is_header, read_of, value_after}

-- the value after a line that was read to this: one for an item, and none for any other line
abbrev pub value_for : Option (Result (List Field) Skip) → Option Value → List (Option Value)
value_for (Some (Ok item)) value = value ∷ []
value_for _ value = []

-- the value after a line that comes after these lines; none for the header
abbrev pub value_at : Meaning → List Shown → Shown → List (Option Value)
value_at meaning before line =
    if is_header meaning.layout before then []
    else value_for (read_of meaning.layout.columns line) (value_after meaning (before ++ line ∷ []))

-- the values after the items among lines that come after these lines
abbrev pub values_after : Meaning → List Shown → List Shown → List (Option Value)
values_after meaning before [] = []
values_after meaning before (line ∷ rest) =
    value_at meaning before line ++ values_after meaning (before ++ line ∷ []) rest

-- the values after all items among the lines of an input
abbrev pub values_of : Meaning → List Shown → List (Option Value)
values_of meaning shown = values_after meaning [] shown

-- the last of them, and none where there are no items
abbrev pub last_of : List (Option Value) → Option Value
last_of [] = None
last_of (value ∷ []) = value
last_of (value ∷ other ∷ values) = last_of (other ∷ values)

-- how many items there were, how many with a value, and the last value
abbrev pub summary : List (Option Value) → List ℕ
summary values = drill_text (length values) (count_by is_some values) (last_of values)

-- what a drill of `count` items from a seed reports of a query
abbrev pub drilled : Meaning → ℕ → ℕ → List ℕ
drilled meaning count seed =
    summary (values_of meaning (lines (drill_bytes meaning.layout count seed) true))
