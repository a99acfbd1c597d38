use Rattle.std.proofs.Common.{◌≤◌, ◌/◌}
use Rattle.rate_equal.specs.PlaceSets.{HasPlace}
use Rattle.rate_equal.proofs.Coming.{IsAlong, Narrows}
use Rattle.rate_equal.proofs.restriction.narrow_each.Given as goal

abbrev pub invariant-parts : goal.invariant-parts
invariant-parts l = IsAlong l.letters l.ways l.initial.pairs.keys l.initial.targets
    (Narrows l.letters l.ways l.initial.pairs.keys (HasPlace l.near.targets))
    (λ place. l.block ≤ place / 128) l.pairs.keys l.targets
