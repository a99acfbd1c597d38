use Rattle.ambiguity_check.specs.Found.{AreFound}
use Rattle.ambiguity_check.proofs.Phases.{IsAfterBelow}
use Rattle.ambiguity_check.proofs.level.mark_phase.Given as goal

-- what comes after the rows of lower places on the left was marked
abbrev pub invariant-lefts : goal.invariant-lefts
invariant-lefts g l =
    AreFound (IsAfterBelow (g.G.Graph.continues l.graph) (g.G.Graph.meet l.graph)
    l.level l.phase l.left)
    l.initial.seen l.initial.next l.seen l.next
