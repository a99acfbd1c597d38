use Rattle.std.proofs.Common.{◌<◌, get_or, length}
use Rattle.slow_eval.specs.declared.keyed_answers.Keyed.{Keyed}
use Rattle.slow_eval.proofs.Tabling.{all_take, distinct_take}
use Rattle.slow_eval.proofs.keyed_answers.tables.Goals as goal

pub table-requires-clause-distinct : goal.table-requires-clause-distinct
table-requires-clause-distinct c =
    distinct_take (get_or c.args.counts.now c.places.place 0) c.args.all.now c.requires.distinct

pub table-requires-clause-answers : goal.table-requires-clause-answers
table-requires-clause-answers c =
    all_take (λ (one : Keyed). c.places.place < length one.answers.items)
    (get_or c.args.counts.now c.places.place 0) c.args.all.now
    (c.requires.answers c.places.place c.places-test.true)
