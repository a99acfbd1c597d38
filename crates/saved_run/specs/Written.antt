-- For the prover. What has become of a snapshot that was to be written.
use Rattle.std.specs.Prelude.{◌≡◌, ℕ, List, Option, Result, Ok, Err}
use Rattle.std.specs.Io.KnownBytes.{Appends}
use Rattle.io_edge.specs.Written.{AppendsSome}
use Rattle.runner_snapshot.specs.declared.flaw.Flaw.{Flaw}
use Rattle.runner_snapshot.specs.declared.flaw.SnapStop.{SnapStop}
use Rattle.runner_snapshot.specs.declared.flaw.SnapStop.TheVariants as stop
use Rattle.stream_run.specs.declared.status.Status.{Status}
use Rattle.stream_run.specs.declared.status.Status.TheVariants.{Done, SinkFault, Memory}

-- the text of the snapshot was written whole and flushed, or a front of it, or nothing since memory
-- ran out; of a bad snapshot the flaw is told, and nothing was written
abbrev pub IsWritten : (List ℕ → List ℕ) → Result Status Flaw → Result (List ℕ) SnapStop
    → Option (List ℕ) → Option (List ℕ) → Type 0
IsWritten text (Ok Done) (Ok bytes) old new = Appends old new (text bytes)
IsWritten text (Ok SinkFault) (Ok bytes) old new = AppendsSome old new (text bytes)
IsWritten text (Ok Memory) bytes old new = new ≡ old
IsWritten text (Err flaw) (Err (stop.Bad flaw')) old new = (flaw ≡ flaw') × (new ≡ old)
IsWritten text result bytes old new = ⊥
