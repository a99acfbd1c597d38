use Rattle.std.proofs.Common.{take}
use Rattle.ambiguity_check.specs.Splits.{left_of, right_of}
use Rattle.ambiguity_example.specs.Met.{AllMeet}
use Rattle.ambiguity_example.proofs.node_items.split_items.Given as goal

-- the items so far meet the nodes so far
abbrev pub invariant-nodes : goal.invariant-nodes
invariant-nodes l = AllMeet l.first.cells.layout.columns (left_of l.first.sets l.second.sets)
    (right_of l.first.sets l.second.sets) (take l.node-index l.nodes) l.items.items
