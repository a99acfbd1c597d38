use Rattle.rate_equal.specs.PlaceSets.{HasPlace}
use Rattle.rate_equal.proofs.Coming.{Comes, IsAlong}
use Rattle.rate_equal.proofs.extension.extend.Given as goal

abbrev pub invariant-looks : goal.invariant-looks
invariant-looks l = IsAlong l.alphabet.letters.items l.ways l.initial.pairs.keys l.initial.targets
    (Comes l.alphabet.letters.items l.ways (HasPlace l.initial.left)) (HasPlace l.left)
    l.pairs.keys l.targets
