use Rattle.std.proofs.Common.{◌≡◌, ◌+◌, ◌-◌, ◌*◌, ◌^◌, length, max, min, take}
use Rattle.std.specs.List.{sum_by}
use Rattle.query_model.specs.declared.query.Query.{size-Query}
use Rattle.query_model.specs.Queries.{plain_of}
use Rattle.compose_eval.specs.Followers.{followers_of}
use Rattle.eval_nodes.specs.Counts.{size_of_runner, stored_in, size_of_track}
use Rattle.eval_nodes.specs.Plain.{seen_of}
use Rattle.map_collect.specs.Keys.{fallback_of, followers_of as keyed_followers, names_of}
use Rattle.node_counts.proofs.+stored.Given as goal

abbrev pub invariant-counts::size_of_live-live : goal.invariant-counts::size_of_live-live
invariant-counts::size_of_live-live l =
    (l.sum ≡ min (sum_by
    (λ runner. 1 + size_of_runner seen_of (stored_in seen_of (plain_of l.query.shape)) runner)
    (take l.i (followers_of l.runners.live))) (2 ^ 64 - 1)) × (l.i-end ≡ length l.runners.live)

abbrev pub invariant-counts::size_of_idle-idle : goal.invariant-counts::size_of_idle-idle
invariant-counts::size_of_idle-idle l =
    (l.sum ≡ min (sum_by
    (λ runner. 1 + size_of_runner seen_of (stored_in seen_of (plain_of l.query.shape)) runner)
    (take l.i l.runners.idle)) (2 ^ 64 - 1)) × (l.i-end ≡ length l.runners.idle)

abbrev pub invariant-counts::size_of_tracks-starts : goal.invariant-counts::size_of_tracks-starts
invariant-counts::size_of_tracks-starts l =
    (l.sum ≡ min
    (sum_by (λ track. size_of_track seen_of (stored_in seen_of (plain_of l.query.shape)) track)
    (take l.i l.tracks.tracks)) (2 ^ 64 - 1)) × (l.i-end ≡ length l.tracks.tracks)

abbrev pub invariant-counts::size_of_keys-keys : goal.invariant-counts::size_of_keys-keys
invariant-counts::size_of_keys-keys l =
    (l.sum
    ≡ min (size_of_runner seen_of (stored_in seen_of (plain_of l.query.shape)) (fallback_of l.keys)
    + sum_by
    (λ runner. 1 + size_of_runner seen_of (stored_in seen_of (plain_of l.query.shape)) runner)
    (take l.i (keyed_followers l.keys))) (2 ^ 64 - 1)) × (l.i-end ≡ length (names_of l.keys))

-- how deep the query is; at one query those that call others stand above them
abbrev pub decreases-counts::stored : goal.decreases-counts::stored
decreases-counts::stored l = 5 * size-Query l.query.now

abbrev pub decreases-counts::size_of_runner : goal.decreases-counts::size_of_runner
decreases-counts::size_of_runner l = 5 * size-Query l.query.now + 1

abbrev pub decreases-counts::size_of_live : goal.decreases-counts::size_of_live
decreases-counts::size_of_live l = 5 * size-Query l.query.now + 2

abbrev pub decreases-counts::size_of_idle : goal.decreases-counts::size_of_idle
decreases-counts::size_of_idle l = 5 * size-Query l.query.now + 2

abbrev pub decreases-counts::size_of_keys : goal.decreases-counts::size_of_keys
decreases-counts::size_of_keys l = 5 * size-Query l.query.now + 2

abbrev pub decreases-counts::size_of_tracks : goal.decreases-counts::size_of_tracks
decreases-counts::size_of_tracks l = 5 * size-Query l.query.now + 3

abbrev pub decreases-node_counts::size_of_choice : goal.decreases-node_counts::size_of_choice
decreases-node_counts::size_of_choice l =
    5 * max (size-Query l.left.now) (size-Query l.right.now) + 4

abbrev pub decreases-node_counts::size_of_combine : goal.decreases-node_counts::size_of_combine
decreases-node_counts::size_of_combine l =
    5 * max (size-Query l.left.now) (size-Query l.right.now) + 4

abbrev pub decreases-node_counts::size_of_split : goal.decreases-node_counts::size_of_split
decreases-node_counts::size_of_split l =
    5 * max (size-Query l.left.now) (size-Query l.right.now) + 4

abbrev pub decreases-node_counts::size_of_compose : goal.decreases-node_counts::size_of_compose
decreases-node_counts::size_of_compose l =
    5 * max (size-Query l.first.now) (size-Query l.second.now) + 4

abbrev pub decreases-node_counts::size_of_apply : goal.decreases-node_counts::size_of_apply
decreases-node_counts::size_of_apply l = 5 * size-Query l.inner.now + 4

abbrev pub decreases-node_counts::size_of_iter : goal.decreases-node_counts::size_of_iter
decreases-node_counts::size_of_iter l = 5 * size-Query l.inner.now + 4

abbrev pub decreases-node_counts::size_of_collect : goal.decreases-node_counts::size_of_collect
decreases-node_counts::size_of_collect l = 5 * size-Query l.inner.now + 4
