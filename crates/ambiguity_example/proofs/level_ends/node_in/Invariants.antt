use Rattle.std.proofs.Common.{◌<◌}
use Rattle.ambiguity_check.specs.declared.graph.Node.{Node}
use Rattle.ambiguity_check.specs.Marked.{IsMarked}
use Rattle.ambiguity_check.specs.Walks.{IsOf}
use Rattle.ambiguity_example.proofs.level_ends.node_in.Given as goal

-- none of the nodes with a lower place on the left is in the level
abbrev pub invariant-lefts : goal.invariant-lefts
invariant-lefts l =
    (node : Node) → IsMarked l.level node → IsOf l.nodes node → node.left < l.left → ⊥
