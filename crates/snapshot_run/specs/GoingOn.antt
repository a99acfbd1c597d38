-- Statement. What came of `resume` and `advance` for the bytes of a snapshot.
use Rattle.std.specs.Prelude.{◌≡◌, ℕ, List, Result}
use Rattle.eval_snapshot.specs.Fits.{Fits}
use Rattle.eval_snapshot.specs.Means.{Means}
use Rattle.query_compiler.specs.Compiled.{KeepsRules}
use Rattle.query_model.specs.Monitors.{Monitor}
use Rattle.runner_snapshot.specs.Bytes.{Snapshot}
use Rattle.runner_snapshot.specs.declared.flaw.Flaw.{Flaw}
use Rattle.saved_run.specs.Advancing.{Advances}
use Rattle.saved_run.specs.Opened.{IsFlawFor, IsOpened}
use Rattle.saved_run.specs.Resuming.{Resumes}
use Rattle.saved_run.specs.Texts.{flaw_text}
use Rattle.stream_run.specs.Outside.{Outside}
use Rattle.stream_run.specs.declared.status.Status.{Status}
use Rattle.stream_run.specs.declared.status.Status.TheVariants.{Memory}
use Rattle.snapshot_run.specs.Concluded.{Concludes}
use Rattle.snapshot_run.specs.LastLines.{EndsWith, ReadsNoItem}
use Rattle.snapshot_run.specs.declared.command.Onward.{Onward}
use Rattle.snapshot_run.specs.declared.command.Onward.TheVariants.{Resume, Advance}
use Rattle.snapshot_run.specs.declared.exit.Exit.{Exit}
use Rattle.snapshot_run.specs.declared.exit.Exit.TheVariants.{Plain, BadSnapshot}

-- what a run did that goes on from a snapshot of a query
abbrev pub GoesOnFrom : Onward → Monitor → Snapshot → Result Status Flaw → Outside → Outside
    → Type 0
GoesOnFrom Resume monitor snapshot result old new =
    Resumes (Fits monitor.layout.columns monitor.query)
    (Means monitor.layout.columns monitor.query) monitor snapshot result old new
GoesOnFrom Advance monitor snapshot result old new =
    Advances (Fits monitor.layout.columns monitor.query)
    (Means monitor.layout.columns monitor.query) monitor snapshot result old new

pub data GoesOn (onward : Onward) (bytes : List ℕ) (exit : Exit) (old new : Outside)
    : Type 0 where
  -- the snapshot is bad, and its first flaw was written
  bad : (flaw : Flaw) → IsFlawFor Fits bytes flaw → ReadsNoItem old new
      → EndsWith (flaw_text flaw) BadSnapshot exit old.taken new.taken
      → GoesOn onward bytes exit old new
  -- it is good, and a run went on from it
  runs : (snapshot : Snapshot) (monitor : Monitor) → IsOpened bytes snapshot monitor
      → KeepsRules monitor → Concludes (GoesOnFrom onward monitor snapshot) exit old new
      → GoesOn onward bytes exit old new
  -- there was no memory to know which
  unknown : exit ≡ Plain Memory → new ≡ old → GoesOn onward bytes exit old new
