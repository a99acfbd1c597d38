-- Rows of which no fields are left.
use Rattle.std.proofs.Common.{◌≡◌, ◌<◌, ◌⊎◌, inl, inr, ℕ, List, [], ◌∷◌, ◌++◌, Option, length, refl}
use Rattle.std.proofs.Common.{sym, ap, ◌∙◌, append-nil, arith}
use Rattle.value_ops.specs.declared.field.Field.{Field}
use Rattle.value_ops.specs.declared.value.Value.{Value}
use Rattle.item_schema.specs.declared.column.Column.{Column}
use Rattle.view_texts.specs.declared.delimiter.Delimiter.{Delimiter}
use Rattle.view_lines.specs.CellRows.{field_cells}
use Rattle.view_lines.specs.Columns.{answer_cell, item_cells, item_line, last_line, wider}
use Rattle.view_lines.specs.JsonRows.{members}

cells_none : (delimiter : Delimiter) (columns : List Column) (fields : List Field)
    → length fields < 1 → field_cells delimiter columns fields ≡ []
cells_none delimiter [] fields none = refl
cells_none delimiter (column ∷ columns) [] none = refl
cells_none delimiter (column ∷ columns) (field ∷ fields) none = absurd (omega arith)

pub cells_end : (delimiter : Delimiter) (text : List ℕ) (columns : List Column)
    (fields : List Field) → length fields < 1 → text ≡ text ++ field_cells delimiter columns fields
cells_end delimiter text columns fields none =
    rw (cells_none delimiter columns fields none) (sym (append-nil text))

members_none : (columns : List Column) (fields : List Field) → length fields < 1
    → members columns fields ≡ []
members_none [] fields none = refl
members_none (column ∷ columns) [] none = refl
members_none (column ∷ columns) (field ∷ fields) none = absurd (omega arith)

pub members_end : (text : List ℕ) (columns : List Column) (fields : List Field)
    → length fields < 1 → text ≡ text ++ members columns fields
members_end text columns fields none =
    rw (members_none columns fields none) (sym (append-nil text))

-- the answer is left alone where a column or a field is missing
module _ (digits : ℕ) (value : Option Value) where
  last_cells : (columns : List Column) (fields : List Field)
      → (length columns < 1) ⊎ (length fields < 1)
      → item_cells digits columns fields value ≡ answer_cell digits value ∷ []
  last_cells [] fields none = refl
  last_cells (column ∷ columns) [] none = refl
  last_cells (column ∷ columns) (field ∷ fields) (inl none) = absurd (omega arith)
  last_cells (column ∷ columns) (field ∷ fields) (inr none) = absurd (omega arith)

  last_of_line : (columns : List Column) (fields : List Field) (widths : List ℕ)
      → (length columns < 1) ⊎ (length fields < 1)
      → item_line digits columns fields value widths ≡ last_line widths (answer_cell digits value)
  last_of_line [] fields widths none = refl
  last_of_line (column ∷ columns) [] widths none = refl
  last_of_line (column ∷ columns) (field ∷ fields) widths (inl none) = absurd (omega arith)
  last_of_line (column ∷ columns) (field ∷ fields) widths (inr none) = absurd (omega arith)

  pub cells_last : (columns : List Column) (fields : List Field)
      → (length columns < 1) ⊎ (length fields < 1)
      → answer_cell digits value ∷ [] ≡ item_cells digits columns fields value
  cells_last columns fields none = sym (last_cells columns fields none)

  pub line_last : (columns : List Column) (fields : List Field) (widths : List ℕ)
      → (length columns < 1) ⊎ (length fields < 1)
      → last_line (wider widths (answer_cell digits value ∷ [])) (answer_cell digits value)
      ≡ item_line digits columns fields value
      (wider widths (item_cells digits columns fields value))
  line_last columns fields widths none =
      ap (λ (cells : List (List ℕ)). last_line (wider widths cells) (answer_cell digits value))
      (cells_last columns fields none)
      ∙ sym (last_of_line columns fields
      (wider widths (item_cells digits columns fields value)) none)
