use Rattle.std.proofs.Common.{◌<◌}
use Rattle.ambiguity_check.specs.Marked.{IsInRow}
use Rattle.ambiguity_example.specs.Known.{Adds}
use Rattle.ambiguity_example.proofs.reached_nodes.add_row.Given as goal

-- those with a lower place on the right were added
abbrev pub invariant-rights : goal.invariant-rights
invariant-rights l = Adds (λ node. IsInRow l.phase l.left l.rights node × (node.right < l.right))
    l.items l.fn.reached.items l.reached.items
