-- Statement. Which cells a predicate marks.
use Rattle.std.specs.Prelude.{◌≡◌, ◌↔◌, ℕ, true, List}
use Rattle.std.specs.List.{Contains}
use Rattle.value_ops.specs.declared.field.Field.{Field}
use Rattle.item_schema.specs.Items.{IsItemOf}
use Rattle.predicate_cells.specs.Cells.{Partition, cell_of}
use Rattle.predicates.specs.Predicates.{Predicate}
use Rattle.predicates.specs.Truth.{holds}

-- the set has the cell of an item exactly if the item meets the predicate
abbrev pub Marks : Partition → Predicate → List ℕ → Type 0
Marks cells pred set = (item : List Field) → IsItemOf cells.layout.columns item
    → Contains set (cell_of cells item) ↔ (holds pred item ≡ true)
