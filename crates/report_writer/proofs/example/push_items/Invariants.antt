use Rattle.std.proofs.Common.{◌≡◌, ◌++◌, take}
use Rattle.std.specs.List.{flat_map}
use Rattle.report_writer.specs.Examples.{item_line}
use Rattle.report_writer.proofs.example.push_items.Given as goal

-- the lines of the items so far
abbrev pub invariant-items : goal.invariant-items
invariant-items l =
    l.text.items ≡ l.initial.text.items ++ flat_map item_line (take l.item-index l.items)
