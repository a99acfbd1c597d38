use Rattle.ambiguity_check.proofs.Moving.{AreMoved}
use Rattle.ambiguity_check.proofs.level.mark_move.Given as goal

abbrev pub invariant-lefts : goal.invariant-lefts
invariant-lefts g l = AreMoved l.step (g.G.Graph.meet l.graph) l.initial.seen l.initial.next l.rest
    l.seen l.next

abbrev pub decreases-lefts : goal.decreases-lefts
decreases-lefts g l = l.rest
