use Rattle.std.proofs.Common.{ℕ}
use Rattle.rate_expr.specs.Sets.{Has}
use Rattle.rate_equal.specs.PlaceSets.{IsIn}
use Rattle.rate_equal.proofs.Coming.{IsAlong, Narrows}
use Rattle.rate_equal.proofs.restriction.narrow_block.Given as goal

abbrev pub invariant-places : goal.invariant-places
invariant-places l = record {
  along : IsAlong l.letters l.ways l.initial.pairs.keys l.initial.targets
      (Narrows l.letters l.ways l.initial.pairs.keys (IsIn l.block l.mask)) (IsIn l.block l.rest)
      l.pairs.keys l.targets;
  left : (position : ℕ) → Has l.rest position → Has l.mask position;
}

abbrev pub decreases-places : goal.decreases-places
decreases-places l = l.rest
