use Rattle.std.proofs.Common.{◌≡◌, ◌<◌, ℕ, None, length, get_or}
use Rattle.expressions.specs.Expressions.{plain_of}
use Rattle.slow_eval.specs.Rows.{IsOnOne}
use Rattle.slow_eval.proofs.places.applied.Given as goal

abbrev pub invariant-places : goal.invariant-places
invariant-places l = record {
  count : length l.given.items ≡ l.answer-index;
  each : (k : ℕ) → k < l.answer-index
      → IsOnOne (plain_of l.expression) (get_or l.row k None) (get_or l.given.items k None);
}
