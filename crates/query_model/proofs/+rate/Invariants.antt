use Rattle.std.proofs.Common.{◌+◌, ◌*◌, max}
use Rattle.query_model.specs.declared.query.Query.{size-Query}
use Rattle.query_model.proofs.+rate.Given as goal

-- how deep the query is; at one query those that call others stand above them
abbrev pub decreases-query::Query::rate : goal.decreases-query::Query::rate
decreases-query::Query::rate l = 3 * size-Query l.self.now

abbrev pub decreases-query::Query::boxed_rate : goal.decreases-query::Query::boxed_rate
decreases-query::Query::boxed_rate l = 3 * size-Query l.self.now + 1

abbrev pub decreases-query_rates::rate_of_choice : goal.decreases-query_rates::rate_of_choice
decreases-query_rates::rate_of_choice l =
    3 * max (size-Query l.left.now) (size-Query l.right.now) + 2

abbrev pub decreases-query_rates::rate_of_split : goal.decreases-query_rates::rate_of_split
decreases-query_rates::rate_of_split l =
    3 * max (size-Query l.left.now) (size-Query l.right.now) + 2

abbrev pub decreases-query_rates::rate_of_iter : goal.decreases-query_rates::rate_of_iter
decreases-query_rates::rate_of_iter l = 3 * size-Query l.inner.now + 2
