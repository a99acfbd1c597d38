use Rattle.std.proofs.Common.{◌≡◌, ◌+◌, ◌*◌, length, max}
use Rattle.query_model.specs.declared.query.Query.{size-Query}
use Rattle.query_model.specs.Queries.{plain_of}
use Rattle.eval_nodes.specs.Cleared.{AreCleared}
use Rattle.eval_nodes.specs.Plain.{seen_of}
use Rattle.node_copies.proofs.empty_nodes.+clear.Given as goal

abbrev pub invariant-clear_idle-idle : goal.invariant-clear_idle-idle
invariant-clear_idle-idle l =
    AreCleared seen_of (plain_of l.query.shape) l.i l.fn.runners.idle l.runners.idle
    × (l.runners.live ≡ l.fn.runners.live) × (length l.runners.idle ≡ length l.fn.runners.idle)
    × (l.i-end ≡ length l.fn.runners.idle)

-- how deep the query is; at one query those that call others stand above them
abbrev pub decreases-clear : goal.decreases-clear
decreases-clear l = 3 * size-Query l.query.now

abbrev pub decreases-clear_idle : goal.decreases-clear_idle
decreases-clear_idle l = 3 * size-Query l.query.now + 1

abbrev pub decreases-clear_choice : goal.decreases-clear_choice
decreases-clear_choice l = 3 * max (size-Query l.left.now) (size-Query l.right.now) + 2

abbrev pub decreases-clear_combine : goal.decreases-clear_combine
decreases-clear_combine l = 3 * max (size-Query l.left.now) (size-Query l.right.now) + 2

abbrev pub decreases-clear_split : goal.decreases-clear_split
decreases-clear_split l = 3 * max (size-Query l.left.now) (size-Query l.right.now) + 2

abbrev pub decreases-clear_compose : goal.decreases-clear_compose
decreases-clear_compose l = 3 * max (size-Query l.left.now) (size-Query l.right.now) + 2

abbrev pub decreases-clear_apply : goal.decreases-clear_apply
decreases-clear_apply l = 3 * size-Query l.inner.now + 2

abbrev pub decreases-clear_iter : goal.decreases-clear_iter
decreases-clear_iter l = 3 * size-Query l.inner.now + 2
