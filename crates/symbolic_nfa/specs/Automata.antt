-- Statement. What an automaton is made of.
use Rattle.std.specs.Prelude.{◌≡◌, ◌<◌, ◌^◌, ℕ, List, length, Some, slice_get}
use Rattle.std.specs.List.{AllByRecursion, Contains}
use Rattle.value_ops.specs.declared.field.Field.{Field}
use Rattle.predicate_cells.specs.Cells.{Partition, cell_count, IsIn}
use Rattle.rate_expr.specs.Paths.{Meets}
use Rattle.rate_expr.specs.Sets.{Sets, Has}

-- the sets of the positions, and the cells
pub record Automaton : Type 0 where
  pub sets : Sets
  pub cells : Partition

-- the cells were made with the predicate of each position
abbrev pub AreDecided : Sets → Partition → Type 0
AreDecided sets cells = AllByRecursion (λ pred. Contains cells.preds pred) sets.preds

-- the mask has exactly the positions that the items of the cell meet
pub record IsMet (sets : Sets) (cells : Partition) (cell mask : ℕ) : Type 0 where
  pub within : mask < 2 ^ length sets.preds
  pub sound : (position : ℕ) (item : List Field) → IsIn cells cell item
      → Has mask position → Meets sets position item
  pub whole : (position : ℕ) (item : List Field) → IsIn cells cell item
      → Meets sets position item → Has mask position

-- there is such a mask for each cell
abbrev pub AreMet : Sets → Partition → List ℕ → Type 0
AreMet sets cells masks = (length masks ≡ cell_count cells)
    × ((cell mask : ℕ) → slice_get masks cell ≡ Some mask → IsMet sets cells cell mask)
