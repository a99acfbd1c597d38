-- Statement. Rows in columns, for a person: each cell is filled with spaces to the width of the
-- widest of its column so far.
use Rattle.std.specs.Prelude.{ℕ, ◌-◌, not, max, List, [], ◌∷◌, ◌++◌, codes, drop, filter, length}
use Rattle.std.specs.Prelude.{replicate, Option}
use Rattle.io_edge.specs.Lines.{Shown}
use Rattle.value_ops.specs.declared.field.Field.{Field}
use Rattle.value_ops.specs.declared.value.Value.{Value}
use Rattle.item_schema.specs.declared.column.Column.{Column}
use Rattle.item_schema.specs.declared.column.Kind.{Kind}
use Rattle.item_schema.specs.declared.column.Kind.TheVariants.{Text, Number}
use Rattle.line_reader.specs.declared.stop.Skip.{Skip}
use Rattle.view_texts.specs.Spelled.{spelled}
use Rattle.view_texts.specs.Utf8.{goes_on}
use Rattle.view_texts.specs.Values.{answer_text, field_text}
use Rattle.view_texts.specs.declared.notation.Notation.TheVariants.{Plain}
use Rattle.view_texts.specs.declared.spelling.Spelling.TheVariants.{Terminal}
use Rattle.view_lines.specs.Rows.{Row, answered, as_read, names, silent, skipped}
use Rattle.view_lines.specs.CellRows.{skipped_text}
use Rattle.view_lines.specs.declared.form.Form.{Form}
use Rattle.view_lines.specs.declared.form.Form.TheVariants.{Dimmed}

-- bytes as a person reads them
abbrev pub shown : List ℕ → List ℕ
shown bytes = spelled Terminal bytes

-- how many characters a text has: its bytes, but for those that go on with one
abbrev pub width_of : List ℕ → ℕ
width_of text = length (filter (λ byte. not (goes_on byte)) text)

-- the width of the first column, if it has one yet
abbrev pub first_of : List ℕ → ℕ
first_of [] = 0
first_of (width ∷ widths) = width

-- the widths of columns so far, and with a row of these cells
abbrev pub wider : List ℕ → List (List ℕ) → List ℕ
wider widths [] = []
wider widths (cell ∷ cells) = max (first_of widths) (width_of cell) ∷ wider (drop 1 widths) cells

-- the cell of an answer
abbrev pub answer_cell : ℕ → Option Value → List ℕ
answer_cell digits value = shown (answer_text Plain digits value)

-- the cells of the names and of an item
abbrev pub name_cells : List Column → List (List ℕ)
name_cells [] = codes "answer" ∷ []
name_cells (column ∷ columns) = shown column.name ∷ name_cells columns

abbrev pub item_cells : ℕ → List Column → List Field → Option Value → List (List ℕ)
item_cells digits (column ∷ columns) (field ∷ fields) value =
    shown (field_text Plain column.kind field) ∷ item_cells digits columns fields value
item_cells digits _ _ value = answer_cell digits value ∷ []

-- the spaces that a text lacks to a width
abbrev pub spaces : ℕ → List ℕ → List ℕ
spaces width text = replicate (width - width_of text) 32

-- texts stand to the left, and numbers to the right
abbrev pub filled : Kind → ℕ → List ℕ → List ℕ
filled Text width text = text ++ spaces width text
filled _ width text = spaces width text ++ text

-- the last cell of a row, which is that of the answer
abbrev pub last_line : List ℕ → List ℕ → List ℕ
last_line widths cell = filled Number (first_of widths) cell ++ codes "\n"

-- the names in a row, with two spaces between them
abbrev pub name_line : List Column → List ℕ → List ℕ
name_line [] widths = last_line widths (codes "answer")
name_line (column ∷ columns) widths =
    filled column.kind (first_of widths) (shown column.name) ++ codes "  "
    ++ name_line columns (drop 1 widths)

-- an item with its answer
abbrev pub item_line : ℕ → List Column → List Field → Option Value → List ℕ → List ℕ
item_line digits (column ∷ columns) (field ∷ fields) value widths =
    filled column.kind (first_of widths) (shown (field_text Plain column.kind field)) ++ codes "  "
    ++ item_line digits columns fields value (drop 1 widths)
item_line digits _ _ value widths = last_line widths (answer_cell digits value)

-- what a terminal is told before and after a skipped line, so that it is dimmed
abbrev pub dim_on : Form → List ℕ
dim_on Dimmed = 27 ∷ codes "[2m"
dim_on _ = []

abbrev pub dim_off : Form → List ℕ
dim_off Dimmed = 27 ∷ codes "[0m"
dim_off _ = []

-- a skipped line, in no columns
abbrev pub skipped_line : Form → Shown → Skip → List ℕ
skipped_line form line why =
    dim_on form ++ shown (as_read line) ++ codes "  " ++ skipped_text why ++ dim_off form
    ++ codes "\n"

-- a row, in columns of these widths
abbrev pub columns_row : Form → ℕ → List Column → List ℕ → Row → List ℕ
columns_row form digits columns widths names = name_line columns widths
columns_row form digits columns widths silent = []
columns_row form digits columns widths (answered fields value) =
    item_line digits columns fields value widths
columns_row form digits columns widths (skipped line why) = skipped_line form line why

-- the widths with a row more
abbrev pub widths_with : ℕ → List Column → List ℕ → Row → List ℕ
widths_with digits columns widths names = wider widths (name_cells columns)
widths_with digits columns widths silent = widths
widths_with digits columns widths (answered fields value) =
    wider widths (item_cells digits columns fields value)
widths_with digits columns widths (skipped line why) = widths
