use Rattle.std.proofs.Common.{take}
use Rattle.ambiguity_example.specs.Met.{AllMeet}
use Rattle.ambiguity_example.proofs.node_items.shared_items.Given as goal

-- the items so far meet the nodes so far
abbrev pub invariant-nodes : goal.invariant-nodes
invariant-nodes l = AllMeet l.first.cells.layout.columns (λ _. l.first.sets) (λ _. l.second.sets)
    (take l.node-index l.nodes) l.items.items
