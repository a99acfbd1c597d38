use Rattle.std.proofs.Common.{◌≡◌, ◌++◌, take}
use Rattle.std.specs.List.{flat_map}
use Rattle.view_lines.specs.CellRows.{front_cell}
use Rattle.view_lines.proofs.cell_rows.push_names.Given as goal

-- the names so far
abbrev pub invariant-columns : goal.invariant-columns
invariant-columns l =
    l.text.items ≡ l.initial.text.items
    ++ flat_map (λ column. front_cell l.fn.delimiter column.name) (take l.column-index l.columns)
