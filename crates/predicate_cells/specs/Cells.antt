-- Statement. The cells of a stream. A cell is a class for each column.
use Rattle.std.specs.Prelude.{◌≡◌, ◌<◌, ℕ, ◌+◌, ◌*◌, List, [], ◌∷◌, IsTrue}
use Rattle.std.specs.List.{list_all, Contains}
use Rattle.value_ops.specs.declared.field.Field.{Field}
use Rattle.item_schema.specs.declared.column.Column.{Column}
use Rattle.item_schema.specs.Items.{IsItemOf}
use Rattle.item_schema.specs.Layout.{Layout}
use Rattle.predicate_cells.specs.Classes.{class_count, class_of}
use Rattle.predicates.specs.Fits.{fits}
use Rattle.predicates.specs.Predicates.{Predicate}
use Rattle.predicates.specs.Truth.{holds}

-- how many cells the columns from this one on make: the product of their numbers of classes
abbrev pub count_from : ℕ → List Column → List Predicate → ℕ
count_from at [] preds = 1
count_from at (column ∷ columns) preds =
    class_count column.kind at preds * count_from (at + 1) columns preds

-- the cell of the fields from this column on, as the number whose digits are their classes
abbrev pub cell_from : ℕ → List Column → List Predicate → List Field → ℕ
cell_from at (column ∷ columns) preds (field ∷ fields) =
    class_of column.kind at preds field * count_from (at + 1) columns preds
    + cell_from (at + 1) columns preds fields
cell_from at _ preds _ = 0

-- the columns of items, and the predicates that distinguish them
pub record Partition : Type 0 where
  pub layout : Layout
  pub preds : List Predicate

-- how many cells there are
abbrev pub cell_count : Partition → ℕ
cell_count cells = count_from 0 cells.layout.columns cells.preds

-- the cell of an item
abbrev pub cell_of : Partition → List Field → ℕ
cell_of cells item = cell_from 0 cells.layout.columns cells.preds item

-- each predicate can be asked about items of these columns
abbrev pub AllFit : List Column → List Predicate → Type 0
AllFit columns preds = IsTrue (list_all (fits columns) preds)

-- the fields are an item of the columns, in this cell
abbrev pub IsIn : Partition → ℕ → List Field → Type 0
IsIn cells cell item = IsItemOf cells.layout.columns item × (cell_of cells item ≡ cell)

-- items of one cell agree on every predicate
abbrev pub CellsDecide : Partition → Type 0
CellsDecide cells = (pred : Predicate) (x y : List Field) → Contains cells.preds pred
    → IsItemOf cells.layout.columns x → IsItemOf cells.layout.columns y
    → cell_of cells x ≡ cell_of cells y → holds pred x ≡ holds pred y

-- each cell has an item
abbrev pub CellsHaveItems : Partition → Type 0
CellsHaveItems cells =
    (cell : ℕ) → cell < cell_count cells → (item : List Field) × IsIn cells cell item
