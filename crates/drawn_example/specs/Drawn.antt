-- For the prover. The parts of a drawing in memory.
use Rattle.std.specs.Prelude.{ℕ, List}
use Rattle.item_schema.specs.declared.column.Column.{Column}
use Rattle.drawn_example.specs.Drawings.{cells_at, parting}
use Rattle.drawn_example.specs.declared.drawing.Drawing.{Drawing}

-- the columns of its items
abbrev pub columns_in : Drawing → List Column
columns_in drawing = drawing.schema.now.columns

-- what reads the item at a place
abbrev pub cells_in : Drawing → ℕ → List ℕ
cells_in drawing = cells_at drawing.readers drawing.example.now

-- where its readings differ first
abbrev pub parting_in : Drawing → ℕ
parting_in drawing = parting drawing.example.now.first drawing.example.now.second
