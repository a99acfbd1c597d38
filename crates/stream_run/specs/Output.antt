-- Statement. What a run writes, as a function of what the query means and the lines of items.
use Rattle.std.specs.Prelude.{ℕ, Bool, true, false, List, [], ◌∷◌, ◌++◌, drop, Option, Some}
use Rattle.std.specs.Prelude.{None, Result, Ok, Err, if◌then◌else◌}
use Rattle.std.specs.List.{flat_map}
use Rattle.io_edge.specs.Lines.{Shown, text, long}
use Rattle.value_ops.specs.declared.field.Field.{Field}
use Rattle.value_ops.specs.declared.value.Value.{Value}
use Rattle.item_schema.specs.Layout.{Layout}
use Rattle.item_schema.specs.declared.column.Column.{Column}
use Rattle.line_reader.specs.declared.stop.Skip.{Skip}
use Rattle.line_reader.specs.declared.stop.Cause.TheVariants as cause
use Rattle.line_reader.specs.Reading.{item_of, skip}
use Rattle.rate_expr.specs.Words.{Word}
use Rattle.report_writer.specs.Texts.{answer_text, skip_text}
use Rattle.stream_run.specs.Meanings.{Meaning}

-- what a line after the header is read to: an item, or the cause why it is skipped, or nothing if
-- it is empty
abbrev pub read_of : List Column → Shown → Option (Result (List Field) Skip)
read_of columns (text []) = None
read_of columns (text (b ∷ bytes)) = Some (item_of columns (b ∷ bytes))
read_of columns long = Some (Err (skip cause.Long 0))

-- the item that was read, if one was
abbrev pub item_in : Option (Result (List Field) Skip) → Word
item_in (Some (Ok item)) = item ∷ []
item_in _ = []

-- the lines after the header, if there is one
abbrev pub body_of : Bool → List Shown → List Shown
body_of true shown = drop 1 shown
body_of false shown = shown

-- the items of lines
abbrev pub items_of : Layout → List Shown → Word
items_of layout shown =
    flat_map (λ line. item_in (read_of layout.columns line)) (body_of layout.has_header shown)

-- the value on all items of these lines
abbrev pub value_after : Meaning → List Shown → Option Value
value_after meaning shown = meaning.value (items_of meaning.layout shown)

-- the line after these lines is the header
abbrev pub is_header : Layout → List Shown → Bool
is_header layout [] = layout.has_header
is_header layout (line ∷ before) = false

-- what is written for a line that was read to this, where the value after it is given
abbrev pub reply_to : Option (Result (List Field) Skip) → Option Value → List ℕ
reply_to None value = []
reply_to (Some (Ok item)) value = answer_text value
reply_to (Some (Err why)) value = skip_text why

-- what is written for a line that comes after these lines; nothing for the header
abbrev pub answer : Meaning → List Shown → Shown → List ℕ
answer meaning before line =
    if is_header meaning.layout before then []
    else reply_to (read_of meaning.layout.columns line) (value_after meaning (before ++ line ∷ []))

-- what is written for lines that come after these lines
abbrev pub answers_after : Meaning → List Shown → List Shown → List ℕ
answers_after meaning before [] = []
answers_after meaning before (line ∷ rest) =
    answer meaning before line ++ answers_after meaning (before ++ line ∷ []) rest

-- what is written for all lines of an input
abbrev pub answers : Meaning → List Shown → List ℕ
answers meaning shown = answers_after meaning [] shown
