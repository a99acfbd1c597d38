use Rattle.std.proofs.Common.{◌+◌, ◌*◌, max}
use Rattle.query_syntax.specs.declared.query.Query.{size-Query}
use Rattle.cases_rates.proofs.query.+query.Given as goal

abbrev pub decreases-query_over : goal.decreases-query_over
decreases-query_over l = 4 * size-Query l.query.now + 1

abbrev pub decreases-shape_over : goal.decreases-shape_over
decreases-shape_over l = 4 * size-Query l.query.now

abbrev pub decreases-both_over : goal.decreases-both_over
decreases-both_over l = 4 * max (size-Query l.left.now) (size-Query l.right.now) + 2

abbrev pub decreases-choice_over : goal.decreases-choice_over
decreases-choice_over l = 4 * max (size-Query l.left.now) (size-Query l.right.now) + 3

abbrev pub decreases-split_over : goal.decreases-split_over
decreases-split_over l = 4 * max (size-Query l.left.now) (size-Query l.right.now) + 3

abbrev pub decreases-combination_over : goal.decreases-combination_over
decreases-combination_over l = 4 * max (size-Query l.left.now) (size-Query l.right.now) + 3

abbrev pub decreases-composition_over : goal.decreases-composition_over
decreases-composition_over l = 4 * max (size-Query l.left.now) (size-Query l.right.now) + 3

abbrev pub decreases-iteration_over : goal.decreases-iteration_over
decreases-iteration_over l = 4 * size-Query l.operand.now + 2

abbrev pub decreases-application_over : goal.decreases-application_over
decreases-application_over l = 4 * size-Query l.operand.now + 2

abbrev pub decreases-collection_over : goal.decreases-collection_over
decreases-collection_over l = 4 * size-Query l.body.now + 2
