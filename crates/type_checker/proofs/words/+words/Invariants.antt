use Rattle.std.proofs.Common.{◌+◌, ◌*◌, max}
use Rattle.query_model.specs.declared.query.Query.{size-Query}
use Rattle.type_checker.proofs.words.+words.Given as goal

abbrev pub decreases-keep_words : goal.decreases-keep_words
decreases-keep_words l = 3 * size-Query l.query.now

abbrev pub decreases-keep_choice : goal.decreases-keep_choice
decreases-keep_choice l = 3 * max (size-Query l.first.now) (size-Query l.second.now) + 2

abbrev pub decreases-keep_split : goal.decreases-keep_split
decreases-keep_split l = 3 * max (size-Query l.first.now) (size-Query l.second.now) + 2

abbrev pub decreases-keep_combination : goal.decreases-keep_combination
decreases-keep_combination l = 3 * max (size-Query l.first.now) (size-Query l.second.now) + 2

abbrev pub decreases-keep_both : goal.decreases-keep_both
decreases-keep_both l = 3 * max (size-Query l.first.now) (size-Query l.second.now) + 1

abbrev pub decreases-keep_iteration : goal.decreases-keep_iteration
decreases-keep_iteration l = 3 * size-Query l.operand.now + 1

abbrev pub decreases-keep_composition : goal.decreases-keep_composition
decreases-keep_composition l = 3 * max (size-Query l.first.now) (size-Query l.second.now) + 2

abbrev pub decreases-keep_fed : goal.decreases-keep_fed
decreases-keep_fed l = 3 * max (size-Query l.first.now) (size-Query l.second.now) + 1

abbrev pub decreases-keep_collection : goal.decreases-keep_collection
decreases-keep_collection l = 3 * size-Query l.operand.now + 1
