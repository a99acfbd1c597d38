use Rattle.symbolic_nfa.proofs.Gathering.{AreGathered}
use Rattle.symbolic_nfa.proofs.ways_on.after.Given as goal

abbrev pub invariant-positions : goal.invariant-positions
invariant-positions l = AreGathered l.positions l.mask l.rest l.found

abbrev pub decreases-positions : goal.decreases-positions
decreases-positions l = l.rest
