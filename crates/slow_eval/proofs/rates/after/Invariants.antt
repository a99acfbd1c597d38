use Rattle.slow_eval.proofs.Stepping.{AreAfterBelow}
use Rattle.slow_eval.proofs.rates.after.Given as goal

abbrev pub invariant-positions : goal.invariant-positions
invariant-positions l = AreAfterBelow l.positions l.mask l.position l.found
