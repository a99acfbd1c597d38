use Rattle.rate_equal.specs.Holding.{AreHeld}
use Rattle.rate_equal.proofs.holders.enter.Given as goal

abbrev pub invariant-pairs : goal.invariant-pairs
invariant-pairs l = AreHeld l.first l.second l.pairs l.place
