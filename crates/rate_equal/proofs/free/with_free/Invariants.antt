use Rattle.rate_expr.specs.Sets.{Has}
use Rattle.std.proofs.Common.{ℕ}
use Rattle.rate_equal.specs.Free.{AreFree}
use Rattle.rate_equal.proofs.free.with_free.Given as goal

abbrev pub invariant-positions : goal.invariant-positions
invariant-positions l = record {
  left : (position : ℕ) → Has l.rest position → Has l.mask position;
  free : AreFree l.letters l.found;
}

abbrev pub decreases-positions : goal.decreases-positions
decreases-positions l = l.rest
