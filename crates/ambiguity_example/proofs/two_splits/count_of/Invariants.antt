use Rattle.std.proofs.Common.{◌≡◌, ◌≤◌, take}
use Rattle.ambiguity_example.specs.Counts.{count_in}
use Rattle.ambiguity_example.proofs.two_splits.count_of.Given as goal

-- those of the nodes so far were counted
abbrev pub invariant-nodes : goal.invariant-nodes
invariant-nodes l = (l.count ≡ count_in l.phase (take l.node-index l.nodes))
    × (l.count ≤ l.node-index)
