use Rattle.std.proofs.Common.{◌≡◌, ◌<◌}
use Rattle.ambiguity_check.specs.Marked.{IsMarked}
use Rattle.ambiguity_example.specs.Known.{Adds}
use Rattle.ambiguity_example.proofs.reached_nodes.add_phase.Given as goal

-- those with a lower place on the left were added
abbrev pub invariant-lefts : goal.invariant-lefts
invariant-lefts l = Adds
    (λ node. (node.phase ≡ l.phase) × IsMarked l.level node × (node.left < l.left))
    l.items l.fn.reached.items l.reached.items
