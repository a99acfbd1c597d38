use Rattle.rate_equal.specs.PlaceSets.{IsIn}
use Rattle.rate_equal.proofs.Coming.{Comes, IsAlong}
use Rattle.rate_equal.proofs.extension.extend_block.Given as goal

abbrev pub invariant-places : goal.invariant-places
invariant-places l = IsAlong l.letters l.ways l.initial.pairs.keys l.initial.targets
    (Comes l.letters l.ways (IsIn l.block l.mask)) (IsIn l.block l.rest) l.pairs.keys l.targets

abbrev pub decreases-places : goal.decreases-places
decreases-places l = l.rest
