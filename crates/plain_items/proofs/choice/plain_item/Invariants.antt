use Rattle.std.proofs.Common.{ℕ, ◌<◌}
use Rattle.predicate_cells.specs.Cells.{IsIn}
use Rattle.plain_items.specs.Plain.{IsPlainAt}
use Rattle.plain_items.proofs.choice.plain_item.Given as goal

-- the item is of the cell, and plain in the columns so far
abbrev pub invariant-columns : goal.invariant-columns
invariant-columns l = record {
  cell : IsIn l.cells l.cell l.item;
  plain : (column : ℕ) → column < l.column → IsPlainAt l.cells l.cell l.item column;
}
