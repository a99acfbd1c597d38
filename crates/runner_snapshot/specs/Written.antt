-- For the prover. The bytes of what the lists of a dump have in memory.
use Rattle.std.specs.Prelude.{ℕ, List, ◌++◌}
use Rattle.runner_snapshot.specs.declared.keys.KeyDump.{KeyDump}
use Rattle.runner_snapshot.specs.declared.runners.Instance.{Instance}
use Rattle.runner_snapshot.specs.declared.tracks.TrackDump.{TrackDump, out-TrackDump}
use Rattle.runner_snapshot.specs.Bytes.{in_eight, keys_bytes, runner_bytes, state_bytes, text_bytes}
use Rattle.runner_snapshot.specs.Plain.{plain_keys, plain_runner}

-- a runner after its start
abbrev pub instance_bytes : Instance → List ℕ
instance_bytes one = in_eight one.outer ++ runner_bytes (plain_runner one.dump)

-- a runner after its key
abbrev pub key_bytes : KeyDump → List ℕ
key_bytes one = text_bytes one.key ++ runner_bytes (plain_runner one.dump)

-- a start of a collect
abbrev pub start_bytes : TrackDump → List ℕ
start_bytes one =
    let inside = out-TrackDump one in
    in_eight inside.start ++ state_bytes inside.state ++ runner_bytes (plain_runner inside.fallback)
    ++ keys_bytes (plain_keys inside.keys)
