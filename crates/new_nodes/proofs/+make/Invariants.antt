use Rattle.std.proofs.Common.{◌≡◌, ◌+◌, ◌*◌, List, [], length, max}
use Rattle.std.specs.List.{AllByRecursion}
use Rattle.item_schema.specs.declared.column.Column.{Column}
use Rattle.query_model.specs.declared.query.Query.{size-Query}
use Rattle.query_model.specs.Queries.{plain_of}
use Rattle.query_model.specs.Bounds.{slots_of}
use Rattle.eval_nodes.specs.Counts.{stored_in}
use Rattle.eval_nodes.specs.Runners.{IsSoundOf}
use Rattle.eval_nodes.specs.Represents.{KeepsFew}
use Rattle.eval_nodes.specs.Plain.{seen_of}
use Rattle.new_nodes.proofs.+make.Given as goal

-- this many have been made
abbrev pub invariant-construction::idle_runners-idle :
    goal.invariant-construction::idle_runners-idle
invariant-construction::idle_runners-idle l =
    (l.runners.live ≡ []) × (length l.runners.idle ≡ l.counter) × (l.runners.room ≡ l.count)
    × ((columns : List Column)
    → AllByRecursion (IsSoundOf seen_of columns (plain_of l.query.shape)) l.runners.idle)
    × AllByRecursion (KeepsFew seen_of (stored_in seen_of (plain_of l.query.shape))
    (slots_of (plain_of l.query.shape)))
    l.runners.idle

-- how deep the query is: a call for the whole calls those for the operands, and each of these makes
-- a box first and then the node in it
abbrev pub decreases-construction::new_node : goal.decreases-construction::new_node
decreases-construction::new_node l = 3 * size-Query l.query.now

abbrev pub decreases-construction::boxed_node : goal.decreases-construction::boxed_node
decreases-construction::boxed_node l = 3 * size-Query l.query.now + 1

abbrev pub decreases-construction::idle_runners : goal.decreases-construction::idle_runners
decreases-construction::idle_runners l = 3 * size-Query l.query.now + 1

abbrev pub decreases-new_nodes::new_choice : goal.decreases-new_nodes::new_choice
decreases-new_nodes::new_choice l = 3 * max (size-Query l.first.now) (size-Query l.second.now) + 2

abbrev pub decreases-new_nodes::new_combine : goal.decreases-new_nodes::new_combine
decreases-new_nodes::new_combine l = 3 * max (size-Query l.first.now) (size-Query l.second.now) + 2

abbrev pub decreases-new_nodes::new_split : goal.decreases-new_nodes::new_split
decreases-new_nodes::new_split l = 3 * max (size-Query l.first.now) (size-Query l.second.now) + 2

abbrev pub decreases-new_nodes::new_compose : goal.decreases-new_nodes::new_compose
decreases-new_nodes::new_compose l = 3 * max (size-Query l.first.now) (size-Query l.second.now) + 2

abbrev pub decreases-new_nodes::new_apply : goal.decreases-new_nodes::new_apply
decreases-new_nodes::new_apply l = 3 * size-Query l.inner.now + 2

abbrev pub decreases-new_nodes::new_iter : goal.decreases-new_nodes::new_iter
decreases-new_nodes::new_iter l = 3 * size-Query l.inner.now + 2
