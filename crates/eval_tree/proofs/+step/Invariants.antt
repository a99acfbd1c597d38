use Rattle.std.proofs.Common.{◌≡◌, ◌+◌, ◌*◌, length, max}
use Rattle.predicates.specs.Plain as predicates
use Rattle.query_model.specs.declared.query.Query.{size-Query}
use Rattle.query_model.specs.Queries.{plain_of}
use Rattle.map_collect.specs.Keys.{fallback_of, followers_of, names_of}
use Rattle.eval_nodes.specs.Plain.{seen_of}
use Rattle.step_laws.specs.Feeds.{IsCarried}
use Rattle.step_laws.specs.Pushes.{AreCarriedBelow, ArePushedBelow}
use Rattle.eval_tree.proofs.+step.Given as goal

-- the runner for later keys and those below the index have taken the item
abbrev pub invariant-keys::push_to_each-keys : goal.invariant-keys::push_to_each-keys
invariant-keys::push_to_each-keys l =
    IsCarried seen_of (plain_of l.query.shape) (fallback_of l.fn.keys) l.item (fallback_of l.keys)
    × (names_of l.keys ≡ names_of l.fn.keys)
    × AreCarriedBelow seen_of (plain_of l.query.shape) l.item l.i (followers_of l.fn.keys)
    (followers_of l.keys) × (l.i-end ≡ length (names_of l.fn.keys))
    × (length (followers_of l.keys) ≡ length (names_of l.fn.keys))

-- the item has gone by at the starts below the index
abbrev pub invariant-collect::push_all-starts : goal.invariant-collect::push_all-starts
invariant-collect::push_all-starts l =
    ArePushedBelow seen_of (plain_of l.query.shape) l.columns (predicates.plain_of l.sync)
    l.item l.i
    l.fn.tracks.tracks l.tracks.tracks
    × (l.tracks.nfa ≡ l.fn.tracks.nfa) × (l.i-end ≡ length l.fn.tracks.tracks)
    × (length l.tracks.tracks ≡ length l.fn.tracks.tracks)

-- how deep the query is; at one query those that call others stand above them
abbrev pub decreases-steps::start_into : goal.decreases-steps::start_into
decreases-steps::start_into l = 8 * size-Query l.query.now

abbrev pub decreases-steps::step_into : goal.decreases-steps::step_into
decreases-steps::step_into l = 8 * size-Query l.query.now

abbrev pub decreases-steps::start_only : goal.decreases-steps::start_only
decreases-steps::start_only l = 8 * size-Query l.query.now + 1

abbrev pub decreases-operands::step_and_end : goal.decreases-operands::step_and_end
decreases-operands::step_and_end l = 8 * size-Query l.operand.now + 1

abbrev pub decreases-operands::start_and_join : goal.decreases-operands::start_and_join
decreases-operands::start_and_join l = 8 * size-Query l.operand.now + 1

abbrev pub decreases-right_runners::carry : goal.decreases-right_runners::carry
decreases-right_runners::carry l = 8 * size-Query l.query.now + 1

abbrev pub decreases-right_runners::renew : goal.decreases-right_runners::renew
decreases-right_runners::renew l = 8 * size-Query l.query.now + 1

abbrev pub decreases-right_runners::carry_parts : goal.decreases-right_runners::carry_parts
decreases-right_runners::carry_parts l = 8 * size-Query l.query.now + 2

abbrev pub decreases-right_runners::carry_value : goal.decreases-right_runners::carry_value
decreases-right_runners::carry_value l = 8 * size-Query l.query.now + 3

abbrev pub decreases-right_runners::deliver : goal.decreases-right_runners::deliver
decreases-right_runners::deliver l = 8 * size-Query l.query.now + 4

abbrev pub decreases-right_runners::begin : goal.decreases-right_runners::begin
decreases-right_runners::begin l = 8 * size-Query l.query.now + 5

abbrev pub decreases-right_runners::pass_on : goal.decreases-right_runners::pass_on
decreases-right_runners::pass_on l = 8 * size-Query l.query.now + 5

abbrev pub decreases-right_runners::feed : goal.decreases-right_runners::feed
decreases-right_runners::feed l = 8 * size-Query l.query.now + 6

abbrev pub decreases-keys::push_to_key : goal.decreases-keys::push_to_key
decreases-keys::push_to_key l = 8 * size-Query l.query.now + 2

abbrev pub decreases-keys::push_to_each : goal.decreases-keys::push_to_each
decreases-keys::push_to_each l = 8 * size-Query l.query.now + 2

abbrev pub decreases-keys::keys_push : goal.decreases-keys::keys_push
decreases-keys::keys_push l = 8 * size-Query l.query.now + 4

abbrev pub decreases-keys::push_to_own : goal.decreases-keys::push_to_own
decreases-keys::push_to_own l = 8 * size-Query l.query.now + 3

abbrev pub decreases-collect::push_all : goal.decreases-collect::push_all
decreases-collect::push_all l = 8 * size-Query l.query.now + 5

abbrev pub decreases-collect::pass_by : goal.decreases-collect::pass_by
decreases-collect::pass_by l = 8 * size-Query l.query.now + 6

abbrev pub decreases-collect::new_runner : goal.decreases-collect::new_runner
decreases-collect::new_runner l = 8 * size-Query l.query.now + 1

abbrev pub decreases-collect::track : goal.decreases-collect::track
decreases-collect::track l = 8 * size-Query l.query.now + 2

abbrev pub decreases-collect::begin_at : goal.decreases-collect::begin_at
decreases-collect::begin_at l = 8 * size-Query l.query.now + 3

abbrev pub decreases-choice::start_choice : goal.decreases-choice::start_choice
decreases-choice::start_choice l = 8 * max (size-Query l.first.now) (size-Query l.second.now) + 7

abbrev pub decreases-choice::step_choice : goal.decreases-choice::step_choice
decreases-choice::step_choice l = 8 * max (size-Query l.first.now) (size-Query l.second.now) + 7

abbrev pub decreases-combine::start_combine : goal.decreases-combine::start_combine
decreases-combine::start_combine l = 8 * max (size-Query l.first.now) (size-Query l.second.now) + 7

abbrev pub decreases-combine::step_combine : goal.decreases-combine::step_combine
decreases-combine::step_combine l = 8 * max (size-Query l.first.now) (size-Query l.second.now) + 7

abbrev pub decreases-apply::start_apply : goal.decreases-apply::start_apply
decreases-apply::start_apply l = 8 * size-Query l.inner.now + 7

abbrev pub decreases-apply::step_apply : goal.decreases-apply::step_apply
decreases-apply::step_apply l = 8 * size-Query l.inner.now + 7

abbrev pub decreases-split::start_split : goal.decreases-split::start_split
decreases-split::start_split l = 8 * max (size-Query l.first.now) (size-Query l.second.now) + 7

abbrev pub decreases-split::step_split : goal.decreases-split::step_split
decreases-split::step_split l = 8 * max (size-Query l.first.now) (size-Query l.second.now) + 7

abbrev pub decreases-iter::start_iter : goal.decreases-iter::start_iter
decreases-iter::start_iter l = 8 * size-Query l.inner.now + 7

abbrev pub decreases-iter::step_iter : goal.decreases-iter::step_iter
decreases-iter::step_iter l = 8 * size-Query l.inner.now + 7

abbrev pub decreases-compose::start_compose : goal.decreases-compose::start_compose
decreases-compose::start_compose l = 8 * max (size-Query l.first.now) (size-Query l.second.now) + 7

abbrev pub decreases-compose::step_compose : goal.decreases-compose::step_compose
decreases-compose::step_compose l = 8 * max (size-Query l.first.now) (size-Query l.second.now) + 7

abbrev pub decreases-collect::start_collect : goal.decreases-collect::start_collect
decreases-collect::start_collect l = 8 * size-Query l.inner.now + 7

abbrev pub decreases-collect::step_collect : goal.decreases-collect::step_collect
decreases-collect::step_collect l = 8 * size-Query l.inner.now + 7

abbrev pub decreases-iter::next_piece : goal.decreases-iter::next_piece
decreases-iter::next_piece l = 8 * size-Query l.inner.now + 2

abbrev pub decreases-split::end_right : goal.decreases-split::end_right
decreases-split::end_right l = 8 * size-Query l.second.now + 2

abbrev pub decreases-split::begin_right : goal.decreases-split::begin_right
decreases-split::begin_right l = 8 * size-Query l.second.now + 2
