use Rattle.symbolic_nfa.proofs.Ending.{AreBefore}
use Rattle.symbolic_nfa.proofs.ends.before.Given as goal

abbrev pub invariant-positions : goal.invariant-positions
invariant-positions l = AreBefore l.positions l.targets l.position l.found
