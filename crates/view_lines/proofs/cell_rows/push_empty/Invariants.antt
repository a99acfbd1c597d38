use Rattle.std.proofs.Common.{◌≡◌, ◌++◌, [], take}
use Rattle.std.specs.List.{flat_map}
use Rattle.view_lines.specs.CellRows.{front_cell}
use Rattle.view_lines.proofs.cell_rows.push_empty.Given as goal

-- the empty cells so far
abbrev pub invariant-columns : goal.invariant-columns
invariant-columns l =
    l.text.items ≡ l.initial.text.items
    ++ flat_map (λ other. front_cell l.fn.delimiter []) (take l.index l.columns)
