-- Fewer levels are left at each node; at as many, those that call others stand above them.
use Rattle.std.proofs.Common.{◌≡◌, ◌+◌, ◌-◌, ◌*◌}
use Rattle.runner_snapshot.specs.Plain.{keys_of, runners_of, tracks_of}
use Rattle.runner_snapshot.specs.Reading.{fed_at, keyed_at, node_at, repeat_at, track_at}
use Rattle.runner_snapshot.proofs.Repeating.{with_front}
use Rattle.runner_snapshot.proofs.reader.Reader.+read.Given as goal

abbrev pub decreases-node : goal.decreases-node
decreases-node l = 16 * l.levels

abbrev pub decreases-boxed_node : goal.decreases-boxed_node
decreases-boxed_node l = 16 * l.levels + 1

abbrev pub decreases-runner : goal.decreases-runner
decreases-runner l = 16 * l.levels + 2

abbrev pub decreases-instance : goal.decreases-instance
decreases-instance l = 16 * l.levels + 3

abbrev pub decreases-runners : goal.decreases-runners
decreases-runners l = 16 * l.levels + 4

abbrev pub decreases-keys : goal.decreases-keys
decreases-keys l = 16 * l.levels + 4

abbrev pub decreases-track : goal.decreases-track
decreases-track l = 16 * l.levels + 5

abbrev pub decreases-tracks : goal.decreases-tracks
decreases-tracks l = 16 * l.levels + 6

abbrev pub decreases-both_nodes : goal.decreases-both_nodes
decreases-both_nodes l = 16 * l.levels + 7

abbrev pub decreases-node_after : goal.decreases-node_after
decreases-node_after l = 16 * l.levels + 8

abbrev pub invariant-runners-runners : goal.invariant-runners-runners
invariant-runners-runners l =
    with_front (runners_of l.runners)
    (repeat_at (fed_at (node_at l.levels)) (l.count - l.counter) l.self.rest.now)
    ≡ repeat_at (fed_at (node_at l.levels)) l.count l.initial.self.rest.now

abbrev pub invariant-keys-keys : goal.invariant-keys-keys
invariant-keys-keys l =
    with_front (keys_of l.keys)
    (repeat_at (keyed_at (node_at l.levels)) (l.count - l.counter) l.self.rest.now)
    ≡ repeat_at (keyed_at (node_at l.levels)) l.count l.initial.self.rest.now

abbrev pub invariant-tracks-tracks : goal.invariant-tracks-tracks
invariant-tracks-tracks l =
    with_front (tracks_of l.tracks)
    (repeat_at (track_at (node_at l.levels)) (l.count - l.counter) l.self.rest.now)
    ≡ repeat_at (track_at (node_at l.levels)) l.count l.initial.self.rest.now
