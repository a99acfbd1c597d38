use Rattle.std.proofs.Common.{take}
use Rattle.std.specs.List.{flat_map}
use Rattle.runner_snapshot.specs.Got.{Gets}
use Rattle.runner_snapshot.specs.Written.{instance_bytes, key_bytes, start_bytes}
use Rattle.runner_snapshot.proofs.+write.Given as goal

abbrev pub invariant-runners::Runners::put_all-instances :
    goal.invariant-runners::Runners::put_all-instances
invariant-runners::Runners::put_all-instances g l =
    Gets g.O.Output.got l.initial.out (flat_map instance_bytes (take l.instance-index l.instances))
    l.out

abbrev pub invariant-keys::KeyDumps::put_all-keys : goal.invariant-keys::KeyDumps::put_all-keys
invariant-keys::KeyDumps::put_all-keys g l =
    Gets g.O.Output.got l.initial.out (flat_map key_bytes (take l.keyed-index l.keys)) l.out

abbrev pub invariant-tracks::TrackDumps::put_all-tracks :
    goal.invariant-tracks::TrackDumps::put_all-tracks
invariant-tracks::TrackDumps::put_all-tracks g l =
    Gets g.O.Output.got l.initial.out (flat_map start_bytes (take l.track-index l.tracks)) l.out
