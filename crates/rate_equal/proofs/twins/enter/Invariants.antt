use Rattle.std.proofs.Common.{◌≡◌, length}
use Rattle.rate_equal.specs.Holding.{AreTwins}
use Rattle.rate_equal.proofs.twins.enter.Given as goal

abbrev pub invariant-positions : goal.invariant-positions
invariant-positions l = record {
  length : length l.twins ≡ 128;
  twins : AreTwins l.first l.second l.twins;
}
