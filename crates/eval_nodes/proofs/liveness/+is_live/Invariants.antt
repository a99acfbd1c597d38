use Rattle.std.proofs.Common.{◌+◌, ◌*◌, max}
use Rattle.query_model.specs.declared.query.Query.{size-Query}
use Rattle.eval_nodes.proofs.liveness.+is_live.Given as goal

-- how deep the query is, and above it the node of its shape
abbrev pub decreases-is_live : goal.decreases-is_live
decreases-is_live l = 2 * size-Query l.query.now

abbrev pub decreases-is_live_in_choice : goal.decreases-is_live_in_choice
decreases-is_live_in_choice l = 2 * max (size-Query l.left.now) (size-Query l.right.now) + 1

abbrev pub decreases-is_live_in_apply : goal.decreases-is_live_in_apply
decreases-is_live_in_apply l = 2 * size-Query l.inner.now + 1

abbrev pub decreases-is_live_in_split : goal.decreases-is_live_in_split
decreases-is_live_in_split l = 2 * size-Query l.first.now + 1

abbrev pub decreases-is_live_in_combine : goal.decreases-is_live_in_combine
decreases-is_live_in_combine l = 2 * size-Query l.first.now + 1

abbrev pub decreases-is_live_in_compose : goal.decreases-is_live_in_compose
decreases-is_live_in_compose l = 2 * size-Query l.first.now + 1
