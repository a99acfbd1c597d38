use Rattle.std.proofs.Common.{◌+◌, ◌*◌, max}
use Rattle.query_model.specs.declared.query.Query.{size-Query}
use Rattle.empty_tables.proofs.collects.+empty.Given as goal

-- how deep the query is; at one query the search in two operands stands above those in each
abbrev pub decreases-empty_in : goal.decreases-empty_in
decreases-empty_in l = 2 * size-Query l.query.now

abbrev pub decreases-empty_in_either : goal.decreases-empty_in_either
decreases-empty_in_either l = 2 * max (size-Query l.left.now) (size-Query l.right.now) + 1
