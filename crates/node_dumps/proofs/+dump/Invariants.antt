use Rattle.std.proofs.Common.{◌≡◌, ◌+◌, ◌*◌, length, max, take}
use Rattle.query_model.specs.declared.query.Query.{size-Query}
use Rattle.query_model.specs.Queries.{plain_of}
use Rattle.map_collect.specs.Keys.{followers_of, names_of}
use Rattle.eval_nodes.specs.Plain.{seen_of}
use Rattle.runner_snapshot.specs.Plain.{keys_of, runners_of, tracks_of}
use Rattle.eval_snapshot.specs.Dumped.{dumped, keyed_with}
use Rattle.std.specs.Prelude.{map}
use Rattle.node_dumps.specs.Lists.{kept_runners, kept_tracks}
use Rattle.node_dumps.proofs.+dump.Given as goal

abbrev pub invariant-lists::dumped_runners-live : goal.invariant-lists::dumped_runners-live
invariant-lists::dumped_runners-live l =
    (runners_of l.runners ≡ kept_runners (plain_of l.query.shape) (take l.i l.instances.live))
    × (l.i-end ≡ length l.instances.live)

abbrev pub invariant-lists::dumped_keys-keys : goal.invariant-lists::dumped_keys-keys
invariant-lists::dumped_keys-keys l =
    (keys_of l.dumps ≡ keyed_with (take l.i (names_of l.keys))
    (map (dumped seen_of (plain_of l.query.shape)) (take l.i (followers_of l.keys))))
    × (l.i-end ≡ length (names_of l.keys))

abbrev pub invariant-lists::dumped_tracks-starts : goal.invariant-lists::dumped_tracks-starts
invariant-lists::dumped_tracks-starts l =
    (tracks_of l.dumps ≡ kept_tracks (plain_of l.query.shape) (take l.i l.tracks.tracks))
    × (l.i-end ≡ length l.tracks.tracks)

-- how deep the query is; at one query those that call others stand above them
abbrev pub decreases-dumps::dump_of_node : goal.decreases-dumps::dump_of_node
decreases-dumps::dump_of_node l = 5 * size-Query l.query.now

abbrev pub decreases-dumps::boxed_dump : goal.decreases-dumps::boxed_dump
decreases-dumps::boxed_dump l = 5 * size-Query l.query.now + 1

abbrev pub decreases-dumps::dump_of_runner : goal.decreases-dumps::dump_of_runner
decreases-dumps::dump_of_runner l = 5 * size-Query l.query.now + 1

abbrev pub decreases-lists::dumped_runners : goal.decreases-lists::dumped_runners
decreases-lists::dumped_runners l = 5 * size-Query l.query.now + 2

abbrev pub decreases-lists::dumped_keys : goal.decreases-lists::dumped_keys
decreases-lists::dumped_keys l = 5 * size-Query l.query.now + 2

abbrev pub decreases-lists::dumped_tracks : goal.decreases-lists::dumped_tracks
decreases-lists::dumped_tracks l = 5 * size-Query l.query.now + 3

abbrev pub decreases-node_dumps::dump_of_choice : goal.decreases-node_dumps::dump_of_choice
decreases-node_dumps::dump_of_choice l =
    5 * max (size-Query l.left.now) (size-Query l.right.now) + 4

abbrev pub decreases-node_dumps::dump_of_combine : goal.decreases-node_dumps::dump_of_combine
decreases-node_dumps::dump_of_combine l =
    5 * max (size-Query l.left.now) (size-Query l.right.now) + 4

abbrev pub decreases-node_dumps::dump_of_split : goal.decreases-node_dumps::dump_of_split
decreases-node_dumps::dump_of_split l =
    5 * max (size-Query l.left.now) (size-Query l.right.now) + 4

abbrev pub decreases-node_dumps::dump_of_compose : goal.decreases-node_dumps::dump_of_compose
decreases-node_dumps::dump_of_compose l =
    5 * max (size-Query l.left.now) (size-Query l.right.now) + 4

abbrev pub decreases-node_dumps::dump_of_apply : goal.decreases-node_dumps::dump_of_apply
decreases-node_dumps::dump_of_apply l = 5 * size-Query l.inner.now + 4

abbrev pub decreases-node_dumps::dump_of_iter : goal.decreases-node_dumps::dump_of_iter
decreases-node_dumps::dump_of_iter l = 5 * size-Query l.inner.now + 4

abbrev pub decreases-node_dumps::dump_of_collect : goal.decreases-node_dumps::dump_of_collect
decreases-node_dumps::dump_of_collect l = 5 * size-Query l.inner.now + 4
