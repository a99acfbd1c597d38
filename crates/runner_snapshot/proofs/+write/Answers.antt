use Rattle.std.proofs.Common.{◌++◌, ap}
use Rattle.std.specs.List.{flat_map}
use Rattle.std.specs.Vec.{vec_len}
use Rattle.std.proofs.lemmas.Result.{on_ok_weaker}
use Rattle.runner_snapshot.specs.declared.keys.KeyDumps.{out-KeyDumps}
use Rattle.runner_snapshot.specs.declared.runners.Runners.{out-Runners}
use Rattle.runner_snapshot.specs.declared.tracks.TrackDump.{out-TrackDump}
use Rattle.runner_snapshot.specs.declared.tracks.TrackDumps.{out-TrackDumps}
use Rattle.runner_snapshot.specs.Bytes.{in_eight, keys_bytes, runner_bytes, runners_bytes}
use Rattle.runner_snapshot.specs.Bytes.{state_bytes, tracks_bytes}
use Rattle.runner_snapshot.specs.Plain.{plain_keys, plain_runner, plain_runners, plain_tracks}
use Rattle.runner_snapshot.specs.Written.{instance_bytes, key_bytes, start_bytes}
use Rattle.runner_snapshot.proofs.Taken.{gets_both, put_next}
use Rattle.runner_snapshot.proofs.Written.{keys_written, list_written, runners_written}
use Rattle.runner_snapshot.proofs.Written.{tracks_written}
use Rattle.runner_snapshot.proofs.+write.Goals as goal

pub runners::Runners::put_all-instances-preserved :
    goal.runners::Runners::put_all-instances-preserved
runners::Runners::put_all-instances-preserved g t c =
    let got = g.O.Output.got in
    let one = c.instance-item.result in
    put_next got instance_bytes c.args.instances.now c.instances.instance-index one
    c.args.out.now c.instances.out c.write.new.out c.instances-test.true c.instance-item.is
    c.instances.invariant
    (gets_both got _ _ _ (in_eight one.outer) (runner_bytes (plain_runner one.dump))
    c.in_ok-put_number.ensures c.in_ok-write.ensures)

pub runners::Runners::write-returns : goal.runners::Runners::write-returns
runners::Runners::write-returns g t c =
    let held = (out-Runners c.args.self.now).runners in
    on_ok_weaker c.put_all.result
    (list_written g.O.Output.got c.args.out.now c.put_count.new.out c.put_all.new.out c.len.result
    (vec_len held) (flat_map instance_bytes c.deref.result.now) (flat_map instance_bytes held.items)
    (runners_bytes (plain_runners c.args.self.now)) c.in_ok-put_count.ensures c.len.ensures
    (ap (flat_map instance_bytes) c.deref.ensures.value) (runners_written c.args.self.now))
    c.put_all.ensures

pub keys::KeyDumps::write-returns : goal.keys::KeyDumps::write-returns
keys::KeyDumps::write-returns g t c =
    let held = (out-KeyDumps c.args.self.now).keys in
    on_ok_weaker c.put_all.result
    (list_written g.O.Output.got c.args.out.now c.put_count.new.out c.put_all.new.out c.len.result
    (vec_len held) (flat_map key_bytes c.deref.result.now) (flat_map key_bytes held.items)
    (keys_bytes (plain_keys c.args.self.now)) c.in_ok-put_count.ensures c.len.ensures
    (ap (flat_map key_bytes) c.deref.ensures.value) (keys_written c.args.self.now))
    c.put_all.ensures

pub tracks::TrackDumps::write-returns : goal.tracks::TrackDumps::write-returns
tracks::TrackDumps::write-returns g t c =
    let held = (out-TrackDumps c.args.self.now).tracks in
    on_ok_weaker c.put_all.result
    (list_written g.O.Output.got c.args.out.now c.put_count.new.out c.put_all.new.out c.len.result
    (vec_len held) (flat_map start_bytes c.deref.result.now) (flat_map start_bytes held.items)
    (tracks_bytes (plain_tracks c.args.self.now)) c.in_ok-put_count.ensures c.len.ensures
    (ap (flat_map start_bytes) c.deref.ensures.value) (tracks_written c.args.self.now))
    c.put_all.ensures

pub tracks::TrackDumps::put_all-tracks-preserved : goal.tracks::TrackDumps::put_all-tracks-preserved
tracks::TrackDumps::put_all-tracks-preserved g t c =
    let got = g.O.Output.got in
    let one = c.track-item.result in
    let inside = out-TrackDump one in
    let a = in_eight inside.start in
    let b = state_bytes inside.state in
    let d = runner_bytes (plain_runner inside.fallback) in
    let e = keys_bytes (plain_keys inside.keys) in
    put_next got start_bytes c.args.tracks.now c.tracks.track-index one c.args.out.now c.tracks.out
    c.write-in-tracks.new.out c.tracks-test.true c.track-item.is c.tracks.invariant
    (gets_both got _ _ _ (a ++ b ++ d) e
    (gets_both got _ _ _ (a ++ b) d
    (gets_both got _ _ _ a b c.in_ok-put_number.ensures c.in_ok-put_state.ensures)
    c.in_ok-write.ensures) c.in_ok-write-2.ensures)
