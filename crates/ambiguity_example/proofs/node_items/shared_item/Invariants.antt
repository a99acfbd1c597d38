use Rattle.std.proofs.Common.{◌≤◌, List}
use Rattle.value_ops.specs.declared.field.Field.{Field}
use Rattle.predicate_cells.specs.Cells.{cell_of}
use Rattle.ambiguity_example.specs.Met.{MeetsBoth}
use Rattle.ambiguity_example.proofs.node_items.shared_item.Given as goal

-- no item of a lower cell meets both places
abbrev pub invariant-tried : goal.invariant-tried
invariant-tried l = (item : List Field) → MeetsBoth l.first.cells.layout.columns l.first.sets
    l.second.sets l.left l.right item → l.cell ≤ cell_of l.first.cells item
