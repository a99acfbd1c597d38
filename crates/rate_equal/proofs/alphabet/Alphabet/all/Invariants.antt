use Rattle.std.proofs.Common.{ℕ, ◌<◌}
use Rattle.rate_equal.specs.PlaceSets.{HasPlace}
use Rattle.rate_equal.proofs.alphabet.Alphabet.all.Given as goal

abbrev pub invariant-letters : goal.invariant-letters
invariant-letters l = (k : ℕ) → k < l.place → HasPlace l.places k
