use Rattle.std.proofs.Common.{◌≡◌, take}
use Rattle.slow_eval.specs.Tabled.{entries_at}
use Rattle.slow_eval.proofs.keyed_answers.table.Given as goal

abbrev pub invariant-keys : goal.invariant-keys
invariant-keys l = l.table ≡ entries_at l.place (take l.one-index l.all)
