use Rattle.std.proofs.Common.{◌≤◌, ◌/◌}
use Rattle.rate_equal.specs.PlaceSets.{HasPlace}
use Rattle.rate_equal.proofs.Coming.{Comes, IsAlong}
use Rattle.rate_equal.proofs.extension.extend_each.Given as goal

abbrev pub invariant-parts : goal.invariant-parts
invariant-parts l = IsAlong l.letters l.ways l.initial.pairs.keys l.initial.targets
    (Comes l.letters l.ways (HasPlace l.left)) (λ place. l.block ≤ place / 128)
    l.pairs.keys l.targets
