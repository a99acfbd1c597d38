-- For the prover. The lines of a drill.
use Rattle.std.specs.Prelude.{ℕ, List, ◌++◌, map}
use Rattle.io_edge.specs.Lines.{Shown, ended_by_lf, text}
use Rattle.item_schema.specs.Layout.{Layout}
use Rattle.item_drill.specs.Lines.{header_of, lines_from}

-- the header, if there is one, and `count` lines from the seed
abbrev pub drilled_lines : Layout → ℕ → ℕ → List Shown
drilled_lines layout count seed =
    map ended_by_lf (header_of layout) ++ map text (lines_from layout.columns count seed)
