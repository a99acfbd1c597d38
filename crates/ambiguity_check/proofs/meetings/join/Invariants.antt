use Rattle.ambiguity_check.proofs.Joining.{AreJoined}
use Rattle.ambiguity_check.proofs.meetings.join.Given as goal

abbrev pub invariant-places : goal.invariant-places
invariant-places l = AreJoined l.initial.rows l.first l.second l.rest l.rows

abbrev pub decreases-places : goal.decreases-places
decreases-places l = l.rest
