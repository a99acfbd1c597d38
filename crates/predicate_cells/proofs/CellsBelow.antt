-- Every item has a cell below their count.
use Rattle.std.proofs.Common.{ℕ, ◌<◌, List}
use Rattle.value_ops.specs.declared.field.Field.{Field}
use Rattle.item_schema.specs.declared.column.Column.{Column}
use Rattle.predicate_cells.specs.Cells.{Partition, cell_count, cell_of, cell_from, count_from}
use Rattle.predicates.specs.Predicates.{Predicate}
use Rattle.predicate_cells.specs.Ranks.{ranks_from}
use Rattle.predicate_cells.proofs.RanksBelow.{cells_positive, cell_in_below}
use Rattle.predicate_cells.proofs.RanksOf.{cells_of_ranks, cell_of_ranks}

module _ (preds : List Predicate) (at : ℕ) (columns : List Column) where
  -- some cell is there
  pub count_positive : 0 < count_from at columns preds
  count_positive =
      rw (← cells_of_ranks preds at columns) (cells_positive (ranks_from at columns preds))

  pub cell_from_below : (fields : List Field)
      → cell_from at columns preds fields < count_from at columns preds
  cell_from_below fields =
      rw (← cells_of_ranks preds at columns, ← cell_of_ranks preds at columns fields)
      (cell_in_below (ranks_from at columns preds) fields)

-- the cell of an item is below the count
pub cell_below : (cells : Partition) (item : List Field) → cell_of cells item < cell_count cells
cell_below cells item = cell_from_below cells.preds 0 cells.layout.columns item
