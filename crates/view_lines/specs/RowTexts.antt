-- Statement. The text of rows, in each form.
use Rattle.std.specs.Prelude.{ℕ, List, [], ◌∷◌, ◌++◌}
use Rattle.item_schema.specs.declared.column.Column.{Column}
use Rattle.view_texts.specs.declared.delimiter.Delimiter.TheVariants.{Comma, Tab}
use Rattle.view_lines.specs.CellRows.{cells_row}
use Rattle.view_lines.specs.Columns.{columns_row, widths_with}
use Rattle.view_lines.specs.JsonRows.{json_row}
use Rattle.view_lines.specs.Rows.{Row}
use Rattle.view_lines.specs.declared.form.Form.{Form}
use Rattle.view_lines.specs.declared.form.Form.TheVariants.{Json, Csv, Tsv, Columns, Dimmed}

-- a row, in columns of these widths where the form has any
abbrev pub row_text : Form → ℕ → List Column → List ℕ → Row → List ℕ
row_text Json digits columns widths row = json_row digits columns row
row_text Csv digits columns widths row = cells_row Comma digits columns row
row_text Tsv digits columns widths row = cells_row Tab digits columns row
row_text Columns digits columns widths row = columns_row Columns digits columns widths row
row_text Dimmed digits columns widths row = columns_row Dimmed digits columns widths row

-- the widths with a row more, where the form has any
abbrev pub widths_after : Form → ℕ → List Column → List ℕ → Row → List ℕ
widths_after Columns digits columns widths row = widths_with digits columns widths row
widths_after Dimmed digits columns widths row = widths_with digits columns widths row
widths_after _ digits columns widths row = widths

-- how rows are written: in which form, and with how many digits after the points of answers
pub record Style : Type 0 where
  pub form : Form
  pub digits : ℕ

-- the widths after rows
abbrev pub widths_of : Style → List Column → List ℕ → List Row → List ℕ
widths_of style columns widths [] = widths
widths_of style columns widths (row ∷ rows) =
    widths_of style columns (widths_after style.form style.digits columns widths row) rows

-- rows, where these are the widths before them
abbrev pub rows_text : Style → List Column → List ℕ → List Row → List ℕ
rows_text style columns widths [] = []
rows_text style columns widths (row ∷ rows) =
    row_text style.form style.digits columns
    (widths_after style.form style.digits columns widths row) row
    ++ rows_text style columns (widths_after style.form style.digits columns widths row) rows
