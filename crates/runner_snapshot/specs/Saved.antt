-- Statement. What a snapshot that was read has.
use Rattle.runner_snapshot.specs.declared.saved.Saved.{Saved}
use Rattle.runner_snapshot.specs.Bytes.{Snapshot, snapshot_with}
use Rattle.runner_snapshot.specs.Plain.{plain_runner}

abbrev pub snapshot_of : Saved → Snapshot
snapshot_of saved = snapshot_with saved.text saved.began (plain_runner saved.dump.value)
