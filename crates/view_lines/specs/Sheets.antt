-- For the prover. What a sheet writes.
use Rattle.std.specs.Prelude.{◌≡◌, ℕ, List, ◌++◌}
use Rattle.item_schema.specs.declared.column.Column.{Column}
use Rattle.view_lines.specs.RowTexts.{Style, rows_text, widths_of}
use Rattle.view_lines.specs.Rows.{Row}
use Rattle.view_lines.specs.declared.sheet.Sheet.{Sheet}

-- how a sheet writes
abbrev pub style_of : Sheet → Style
style_of sheet = record { form = sheet.form; digits = sheet.digits }

-- a sheet that is `old` before it and `new` after it puts rows behind a text
pub record Writes (columns : List Column) (rows : List Row) (old new : Sheet)
    (before after : List ℕ) : Type 0 where
  pub style : style_of new ≡ style_of old
  pub widths : new.ruler.widths.items ≡ widths_of (style_of old) columns old.ruler.widths.items rows
  pub text : after ≡ before ++ rows_text (style_of old) columns old.ruler.widths.items rows
