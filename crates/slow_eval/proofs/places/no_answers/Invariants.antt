use Rattle.std.proofs.Common.{◌≡◌, ℕ, None, length, get_or}
use Rattle.slow_eval.proofs.places.no_answers.Given as goal

abbrev pub invariant-places : goal.invariant-places
invariant-places l = record {
  count : length l.row.items ≡ l._place;
  none : (place : ℕ) → get_or l.row.items place None ≡ None;
}
