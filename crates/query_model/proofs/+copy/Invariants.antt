use Rattle.std.proofs.Common.{◌+◌, ◌*◌, max}
use Rattle.query_model.specs.declared.query.Query.{size-Query}
use Rattle.query_model.proofs.+copy.Given as goal

-- how deep the query is; at one query those that call others stand above them
abbrev pub decreases-query::Query::copy_of_shape : goal.decreases-query::Query::copy_of_shape
decreases-query::Query::copy_of_shape l = 4 * size-Query l.self.now

abbrev pub decreases-query::Query::try_copy : goal.decreases-query::Query::try_copy
decreases-query::Query::try_copy l = 4 * size-Query l.self.now + 1

abbrev pub decreases-query::Query::boxed_copy : goal.decreases-query::Query::boxed_copy
decreases-query::Query::boxed_copy l = 4 * size-Query l.self.now + 2

abbrev pub decreases-copies::copy_of_choice : goal.decreases-copies::copy_of_choice
decreases-copies::copy_of_choice l = 4 * max (size-Query l.left.now) (size-Query l.right.now) + 3

abbrev pub decreases-copies::copy_of_split : goal.decreases-copies::copy_of_split
decreases-copies::copy_of_split l = 4 * max (size-Query l.left.now) (size-Query l.right.now) + 3

abbrev pub decreases-copies::copy_of_iter : goal.decreases-copies::copy_of_iter
decreases-copies::copy_of_iter l = 4 * size-Query l.inner.now + 3

abbrev pub decreases-copies::copy_of_combine : goal.decreases-copies::copy_of_combine
decreases-copies::copy_of_combine l = 4 * max (size-Query l.left.now) (size-Query l.right.now) + 3

abbrev pub decreases-copies::copy_of_apply : goal.decreases-copies::copy_of_apply
decreases-copies::copy_of_apply l = 4 * size-Query l.inner.now + 3

abbrev pub decreases-copies::copy_of_compose : goal.decreases-copies::copy_of_compose
decreases-copies::copy_of_compose l = 4 * max (size-Query l.left.now) (size-Query l.right.now) + 3

abbrev pub decreases-copies::copy_of_collect : goal.decreases-copies::copy_of_collect
decreases-copies::copy_of_collect l = 4 * size-Query l.inner.now + 3
