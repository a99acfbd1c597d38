use Rattle.slow_eval.proofs.Stepping.{AreMetBelow}
use Rattle.slow_eval.proofs.rates.met.Given as goal

abbrev pub invariant-positions : goal.invariant-positions
invariant-positions l = AreMetBelow l.positions l.mask l.item l.position l.found
