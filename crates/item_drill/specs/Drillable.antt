-- For the prover. Streams that can be drilled.
use Rattle.std.specs.Prelude.{◌<◌, ◌≤◌, length, IsTrue}
use Rattle.std.specs.List.{AllByRecursion}
use Rattle.io_edge.specs.Lines.{NoLf}
use Rattle.language_base.specs.Limits.{max_columns}
use Rattle.item_schema.specs.Layout.{Layout}
use Rattle.item_drill.specs.Lines.{are_read, names_of}

-- the columns are as a query text can declare them: at least one, few, read from lines, and with
-- words as names
pub record IsDrillable (layout : Layout) : Type 0 where
  pub some : 0 < length layout.columns
  pub few : length layout.columns ≤ max_columns
  pub read : IsTrue (are_read layout.columns)
  pub names : AllByRecursion NoLf (names_of layout.columns)
