use Rattle.std.proofs.Common.{◌<◌, IfSome, length}
use Rattle.rate_equal.proofs.known_sets.closest.Given as goal

abbrev pub invariant-known : goal.invariant-known
invariant-known l = IfSome l.best (λ place. place < length l.known)
