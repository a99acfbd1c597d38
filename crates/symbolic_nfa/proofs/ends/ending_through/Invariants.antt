use Rattle.std.proofs.Common.{◌-◌, ◌^◌}
use Rattle.symbolic_nfa.proofs.Ending.{AreEnding}
use Rattle.symbolic_nfa.proofs.ends.ending_through.Given as goal

abbrev pub invariant-rounds : goal.invariant-rounds
invariant-rounds l = AreEnding l.positions l.mask l.ending l.found

abbrev pub decreases-rounds : goal.decreases-rounds
decreases-rounds l = 2 ^ 128 - l.ending
