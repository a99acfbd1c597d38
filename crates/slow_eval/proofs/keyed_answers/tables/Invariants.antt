use Rattle.std.proofs.Common.{◌≡◌, ◌<◌, ℕ, false, cond, None, Some, length, take, get_or}
use Rattle.value_ops.specs.declared.value.Value.TheVariants as value
use Rattle.slow_eval.specs.Tabled.{entries_at}
use Rattle.slow_eval.proofs.keyed_answers.tables.Given as goal

abbrev pub invariant-places : goal.invariant-places
invariant-places l = record {
  count : length l.row.items ≡ l.place;
  each : (k : ℕ) → k < l.place → get_or l.row.items k None
      ≡ cond (get_or l.in_rate k false)
      (Some (value.Table (entries_at k (take (get_or l.counts k 0) l.all)))) None;
}
