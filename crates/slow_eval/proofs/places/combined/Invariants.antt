use Rattle.std.proofs.Common.{◌≡◌, ◌<◌, ℕ, None, length, get_or}
use Rattle.expressions.specs.Expressions.{plain_of}
use Rattle.slow_eval.specs.Rows.{IsOnBoth}
use Rattle.slow_eval.proofs.places.combined.Given as goal

abbrev pub invariant-places : goal.invariant-places
invariant-places l = record {
  count : length l.given.items ≡ l.place;
  each : (k : ℕ) → k < l.place
      → IsOnBoth (plain_of l.expression) (get_or l.row k None) (get_or l.other k None)
      (get_or l.given.items k None);
}
