use Rattle.std.proofs.Common.{◌≡◌, ◌+◌, ◌*◌, [], None, length, map, max, take}
use Rattle.std.specs.List.{AllZip}
use Rattle.query_model.specs.declared.query.Query.{size-Query}
use Rattle.query_model.specs.Queries.{plain_of}
use Rattle.map_collect.specs.Keys.{fallback_of, followers_of, names_of}
use Rattle.eval_nodes.specs.Plain.{seen_of}
use Rattle.eval_nodes.specs.declared.progress.Progress.{Progress}
use Rattle.runner_snapshot.specs.Dumps.{Keyed}
use Rattle.runner_snapshot.specs.Plain.{keys_of, runners_of, tracks_of}
use Rattle.restored_nodes.specs.Restored.{IsRestoredFed, IsRestoredRunner, IsRestoredTrack}
use Rattle.restored_nodes.proofs.+restore.Given as goal

abbrev pub invariant-runners::live_runners-fed : goal.invariant-runners::live_runners-fed
invariant-runners::live_runners-fed l =
    AllZip (IsRestoredFed seen_of (plain_of l.query.shape)) (take l.i (runners_of l.runners))
    l.held.live
    × (l.held.idle ≡ []) × (l.held.room ≡ l.room) × (l.i-end ≡ length (runners_of l.runners))

abbrev pub invariant-keys::put_keys-keys : goal.invariant-keys::put_keys-keys
invariant-keys::put_keys-keys l =
    (fallback_of l.keys ≡ fallback_of l.fn.keys)
    × (names_of l.keys ≡ take l.i (map (λ (one : Keyed). one.key) (keys_of l.dumps)))
    × AllZip (λ (dump : Keyed) (one : Progress). IsRestoredRunner seen_of None
    (plain_of l.query.shape) dump.runner one) (take l.i (keys_of l.dumps)) (followers_of l.keys)
    × (l.i-end ≡ length (keys_of l.dumps))

abbrev pub invariant-tracks::put_tracks-tracks : goal.invariant-tracks::put_tracks-tracks
invariant-tracks::put_tracks-tracks l =
    (l.tracks.nfa ≡ l.fn.tracks.nfa)
    × AllZip (IsRestoredTrack seen_of (plain_of l.query.shape)) (take l.i (tracks_of l.dumps))
    l.tracks.tracks
    × (l.i-end ≡ length (tracks_of l.dumps))

-- how deep the query is; at one query those that call others stand above them
abbrev pub decreases-nodes::restored_node : goal.decreases-nodes::restored_node
decreases-nodes::restored_node l = 7 * size-Query l.query.now

abbrev pub decreases-nodes::boxed_node : goal.decreases-nodes::boxed_node
decreases-nodes::boxed_node l = 7 * size-Query l.query.now + 1

abbrev pub decreases-nodes::restored_progress : goal.decreases-nodes::restored_progress
decreases-nodes::restored_progress l = 7 * size-Query l.query.now + 1

abbrev pub decreases-runners::live_runners : goal.decreases-runners::live_runners
decreases-runners::live_runners l = 7 * size-Query l.query.now + 2

abbrev pub decreases-keys::put_keys : goal.decreases-keys::put_keys
decreases-keys::put_keys l = 7 * size-Query l.query.now + 2

abbrev pub decreases-keys::restored_keys : goal.decreases-keys::restored_keys
decreases-keys::restored_keys l = 7 * size-Query l.query.now + 3

abbrev pub decreases-tracks::put_tracks : goal.decreases-tracks::put_tracks
decreases-tracks::put_tracks l = 7 * size-Query l.query.now + 4

abbrev pub decreases-tracks::restored_tracks : goal.decreases-tracks::restored_tracks
decreases-tracks::restored_tracks l = 7 * size-Query l.query.now + 5

abbrev pub decreases-operands::restored_choice : goal.decreases-operands::restored_choice
decreases-operands::restored_choice l =
    7 * max (size-Query l.left.now) (size-Query l.right.now) + 5

abbrev pub decreases-operands::restored_combine : goal.decreases-operands::restored_combine
decreases-operands::restored_combine l =
    7 * max (size-Query l.left.now) (size-Query l.right.now) + 5

abbrev pub decreases-operands::restored_split : goal.decreases-operands::restored_split
decreases-operands::restored_split l =
    7 * max (size-Query l.left.now) (size-Query l.right.now) + 5

abbrev pub decreases-operands::restored_compose : goal.decreases-operands::restored_compose
decreases-operands::restored_compose l =
    7 * max (size-Query l.left.now) (size-Query l.right.now) + 5

abbrev pub decreases-operands::restored_apply : goal.decreases-operands::restored_apply
decreases-operands::restored_apply l = 7 * size-Query l.inner.now + 5

abbrev pub decreases-operands::restored_iter : goal.decreases-operands::restored_iter
decreases-operands::restored_iter l = 7 * size-Query l.inner.now + 5

abbrev pub decreases-operands::restored_collect : goal.decreases-operands::restored_collect
decreases-operands::restored_collect l = 7 * size-Query l.inner.now + 6
