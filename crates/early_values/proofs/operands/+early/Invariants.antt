use Rattle.std.proofs.Common.{◌+◌, ◌*◌, max}
use Rattle.query_model.specs.declared.query.Query.{size-Query}
use Rattle.early_values.proofs.operands.+early.Given as goal

-- how deep the query is; at one query the search in two operands stands above those in each
abbrev pub decreases-early_in : goal.decreases-early_in
decreases-early_in l = 2 * size-Query l.query.now

abbrev pub decreases-early_in_either : goal.decreases-early_in_either
decreases-early_in_either l = 2 * max (size-Query l.left.now) (size-Query l.right.now) + 1
