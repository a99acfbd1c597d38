-- Statement. Rows as objects of JSON.
use Rattle.std.specs.Prelude.{ℕ, List, [], ◌∷◌, ◌++◌, codes, Option}
use Rattle.io_edge.specs.Lines.{Shown, text, long}
use Rattle.value_ops.specs.declared.field.Field.{Field}
use Rattle.value_ops.specs.declared.value.Value.{Value}
use Rattle.item_schema.specs.declared.column.Column.{Column}
use Rattle.line_reader.specs.declared.stop.Skip.{Skip}
use Rattle.view_texts.specs.Reasons.{reason_text}
use Rattle.view_texts.specs.Spelled.{json_string}
use Rattle.view_texts.specs.Values.{answer_text, field_text}
use Rattle.view_texts.specs.declared.notation.Notation.TheVariants.{Json}
use Rattle.view_lines.specs.Rows.{Row, answered, names, silent, skipped}

-- the fields under the names of their columns, each with a comma after it
abbrev pub members : List Column → List Field → List ℕ
members (column ∷ columns) (field ∷ fields) =
    json_string column.name ++ codes ":" ++ field_text Json column.kind field ++ codes ","
    ++ members columns fields
members _ _ = []

-- a skipped line, with a comma after it; nothing of one that is too long
abbrev pub line_member : Shown → List ℕ
line_member (text line) = codes "\"line\":" ++ json_string line ++ codes ","
line_member long = []

-- an item with its answer
abbrev pub item_object : ℕ → List Column → List Field → Option Value → List ℕ
item_object digits columns fields value =
    codes "{" ++ members columns fields ++ codes "\"answer\":" ++ answer_text Json digits value
    ++ codes "}\n"

-- a skipped line with its reason
abbrev pub skipped_object : Shown → Skip → List ℕ
skipped_object line why =
    codes "{" ++ line_member line ++ codes "\"skipped\":\"" ++ reason_text why ++ codes "\"}\n"

-- a row; the names stand in each object
abbrev pub json_row : ℕ → List Column → Row → List ℕ
json_row digits columns names = []
json_row digits columns silent = []
json_row digits columns (answered fields value) = item_object digits columns fields value
json_row digits columns (skipped line why) = skipped_object line why
