-- Each cell has an item.
use Rattle.std.proofs.Common.{◌≡◌, ℕ, ◌+◌, ◌/◌, ◌%◌, ◌<◌, List, [], ◌∷◌, sym, ◌∙◌, arith}
use Rattle.std.proofs.lemmas.Nat.{div-add-mod', div_below, mod_below}
use Rattle.value_ops.specs.declared.field.Field.{Field}
use Rattle.item_schema.specs.declared.column.Column.{Column}
use Rattle.item_schema.specs.declared.column.Kind.{Kind}
use Rattle.item_schema.specs.Items.{IsFieldOf, IsItemOf}
use Rattle.predicate_cells.specs.Cells.{Partition, CellsHaveItems, IsIn, cell_count, cell_from}
use Rattle.predicate_cells.specs.Cells.{count_from}
use Rattle.predicate_cells.specs.Classes.{class_count, class_of}
use Rattle.predicates.specs.Predicates.{Predicate}
use Rattle.predicate_cells.specs.Ranks.{ranks_from, field_by_kind, rising_starts, rising_texts}
use Rattle.predicate_cells.specs.Samples.{sample_of}
use Rattle.predicate_cells.proofs.CellsBelow.{count_positive}
use Rattle.predicate_cells.proofs.ClassFields.{class_in_field, field_in_is}
use Rattle.predicate_cells.proofs.RanksOf.{cells_of_ranks, count_of_ranks, class_of_ranks}
use Rattle.predicate_cells.proofs.RanksOf.{starts_rise, starts_begin, texts_bytes, texts_rise}

module _ (preds : List Predicate) where
  -- a field of a class of a column
  abbrev pub field_of_class : Kind → ℕ → ℕ → Field
  field_of_class kind column class =
      field_by_kind kind (rising_starts kind column preds) (rising_texts kind column preds) class

  -- is of the column
  pub field_of_class_is : (kind : Kind) (column class : ℕ) → class < class_count kind column preds
      → IsFieldOf kind (field_of_class kind column class)
  field_of_class_is kind column class lt =
      field_in_is _ _ (starts_rise column preds kind) (starts_begin column preds kind)
      (texts_rise column preds kind) (texts_bytes column preds kind) kind class
      (rw (count_of_ranks column preds kind) lt)

  -- and of the class
  pub class_of_field : (kind : Kind) (column class : ℕ) → class < class_count kind column preds
      → class_of kind column preds (field_of_class kind column class) ≡ class
  class_of_field kind column class lt =
      sym (class_of_ranks column preds kind _)
      ∙ class_in_field _ _ (starts_rise column preds kind) (starts_begin column preds kind)
      (texts_rise column preds kind) (texts_bytes column preds kind) kind class
      (rw (count_of_ranks column preds kind) lt)

  -- the sample of a cell is an item
  pub sample_of_is : (at : ℕ) (columns : List Column) (cell : ℕ)
      → cell < count_from at columns preds
      → IsItemOf columns (sample_of (ranks_from at columns preds) cell)
  sample_of_is at [] cell lt = tt
  sample_of_is at (column ∷ columns) cell lt =
      let width = count_from (at + 1) columns preds in
      let positive = count_positive preds (at + 1) columns in
      let below = div_below cell width (class_count column.kind at preds) positive lt in
      rw (cells_of_ranks preds (at + 1) columns) (
        field_of_class_is column.kind at (cell / width) below,
        sample_of_is (at + 1) columns (cell % width) (mod_below cell width positive),
      )

  -- of the cell
  pub cell_of_sample : (at : ℕ) (columns : List Column) (cell : ℕ)
      → cell < count_from at columns preds
      → cell_from at columns preds (sample_of (ranks_from at columns preds) cell) ≡ cell
  cell_of_sample at [] cell lt = omega arith
  cell_of_sample at (column ∷ columns) cell lt =
      let width = count_from (at + 1) columns preds in
      let positive = count_positive preds (at + 1) columns in
      let below = div_below cell width (class_count column.kind at preds) positive lt in
      rw (
        cells_of_ranks preds (at + 1) columns,
        class_of_field column.kind at (cell / width) below,
        cell_of_sample (at + 1) columns (cell % width) (mod_below cell width positive),
      )
      (div-add-mod' cell width)

-- the sample of a cell is an item in it
pub sample_in : (cells : Partition) (cell : ℕ) → cell < cell_count cells
    → IsIn cells cell (sample_of (ranks_from 0 cells.layout.columns cells.preds) cell)
sample_in cells cell lt = (
  sample_of_is cells.preds 0 cells.layout.columns cell lt,
  cell_of_sample cells.preds 0 cells.layout.columns cell lt,
)

-- so each cell has one
pub cells_have_items : (cells : Partition) → CellsHaveItems cells
cells_have_items cells cell lt =
    (sample_of (ranks_from 0 cells.layout.columns cells.preds) cell, sample_in cells cell lt)
