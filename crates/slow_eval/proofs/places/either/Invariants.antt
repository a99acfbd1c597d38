use Rattle.std.proofs.Common.{◌≡◌, ◌<◌, ◌≤◌, ℕ, None, length, get_or}
use Rattle.std.specs.Option.{option_or}
use Rattle.slow_eval.proofs.places.either.Given as goal

abbrev pub invariant-places : goal.invariant-places
invariant-places l = record {
  count : length l.row.items ≡ length l.fn.row.items;
  count_other : length l.other.items ≡ length l.fn.other.items;
  done : (k : ℕ) → k < l.place
      → get_or l.row.items k None
      ≡ option_or (get_or l.fn.row.items k None) (get_or l.fn.other.items k None);
  later : (k : ℕ) → l.place ≤ k → get_or l.row.items k None ≡ get_or l.fn.row.items k None;
  later_other : (k : ℕ) → l.place ≤ k
      → get_or l.other.items k None ≡ get_or l.fn.other.items k None;
}
