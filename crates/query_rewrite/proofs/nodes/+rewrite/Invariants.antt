use Rattle.std.proofs.Common.{◌+◌, ◌*◌, max}
use Rattle.query_model.specs.declared.query.Query.{size-Query}
use Rattle.query_rewrite.proofs.nodes.+rewrite.Given as goal

-- how deep the query is; at one query those that call others stand above them
abbrev pub decreases-rewritten : goal.decreases-rewritten
decreases-rewritten l = 2 * size-Query l.query.now

abbrev pub decreases-rewritten_choice : goal.decreases-rewritten_choice
decreases-rewritten_choice l = 2 * max (size-Query l.left.now) (size-Query l.right.now) + 1

abbrev pub decreases-rewritten_split : goal.decreases-rewritten_split
decreases-rewritten_split l = 2 * max (size-Query l.left.now) (size-Query l.right.now) + 1

abbrev pub decreases-rewritten_iter : goal.decreases-rewritten_iter
decreases-rewritten_iter l = 2 * size-Query l.inner.now + 1

abbrev pub decreases-rewritten_combine : goal.decreases-rewritten_combine
decreases-rewritten_combine l = 2 * max (size-Query l.left.now) (size-Query l.right.now) + 1

abbrev pub decreases-rewritten_apply : goal.decreases-rewritten_apply
decreases-rewritten_apply l = 2 * size-Query l.inner.now + 1

abbrev pub decreases-rewritten_compose : goal.decreases-rewritten_compose
decreases-rewritten_compose l = 2 * max (size-Query l.left.now) (size-Query l.right.now) + 1

abbrev pub decreases-rewritten_collect : goal.decreases-rewritten_collect
decreases-rewritten_collect l = 2 * size-Query l.inner.now + 1
