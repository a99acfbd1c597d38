-- Statement. Rows as cells, one for each column and one for the answer.
use Rattle.std.specs.Prelude.{ℕ, List, [], ◌∷◌, ◌++◌, codes, Option}
use Rattle.std.specs.List.{flat_map}
use Rattle.io_edge.specs.Lines.{Shown}
use Rattle.value_ops.specs.declared.field.Field.{Field}
use Rattle.value_ops.specs.declared.value.Value.{Value}
use Rattle.item_schema.specs.declared.column.Column.{Column}
use Rattle.line_reader.specs.declared.stop.Skip.{Skip}
use Rattle.view_texts.specs.Cells.{cell_text, separator}
use Rattle.view_texts.specs.Reasons.{reason_text}
use Rattle.view_texts.specs.Values.{answer_text, field_text}
use Rattle.view_texts.specs.declared.delimiter.Delimiter.{Delimiter}
use Rattle.view_texts.specs.declared.notation.Notation.TheVariants.{Plain}
use Rattle.view_lines.specs.Rows.{Row, answered, as_read, names, silent, skipped}

-- why a line is skipped, as a run says it
abbrev pub skipped_text : Skip → List ℕ
skipped_text why = codes "skipped " ++ reason_text why

-- a cell that others follow
abbrev pub front_cell : Delimiter → List ℕ → List ℕ
front_cell delimiter cell = cell_text delimiter cell ++ separator delimiter ∷ []

-- the last cell of a row
abbrev pub last_cell : Delimiter → List ℕ → List ℕ
last_cell delimiter cell = cell_text delimiter cell ++ codes "\n"

-- the cells of fields
abbrev pub field_cells : Delimiter → List Column → List Field → List ℕ
field_cells delimiter (column ∷ columns) (field ∷ fields) =
    front_cell delimiter (field_text Plain column.kind field)
    ++ field_cells delimiter columns fields
field_cells delimiter _ _ = []

-- a skipped line stands in the cell of the first column, and nothing in those of the others
abbrev pub line_cells : Delimiter → List Column → List ℕ → List ℕ
line_cells delimiter [] line = []
line_cells delimiter (column ∷ columns) line =
    front_cell delimiter line ++ flat_map (λ other. front_cell delimiter []) columns

-- the names
abbrev pub names_cells : Delimiter → List Column → List ℕ
names_cells delimiter columns =
    flat_map (λ column. front_cell delimiter column.name) columns
    ++ last_cell delimiter (codes "answer")

-- an item with its answer
abbrev pub item_cells : Delimiter → ℕ → List Column → List Field → Option Value → List ℕ
item_cells delimiter digits columns fields value =
    field_cells delimiter columns fields ++ last_cell delimiter (answer_text Plain digits value)

-- a skipped line with its reason, which stands in the place of the answer
abbrev pub skipped_cells : Delimiter → List Column → Shown → Skip → List ℕ
skipped_cells delimiter columns line why =
    line_cells delimiter columns (as_read line) ++ last_cell delimiter (skipped_text why)

-- a row
abbrev pub cells_row : Delimiter → ℕ → List Column → Row → List ℕ
cells_row delimiter digits columns names = names_cells delimiter columns
cells_row delimiter digits columns silent = []
cells_row delimiter digits columns (answered fields value) =
    item_cells delimiter digits columns fields value
cells_row delimiter digits columns (skipped line why) =
    skipped_cells delimiter columns line why
