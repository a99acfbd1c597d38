-- Statement. What came of a run that ends with a status or with a flaw, where the flaw is written.
use Rattle.std.specs.Prelude.{◌≡◌, Result, Ok, Err}
use Rattle.runner_snapshot.specs.declared.flaw.Flaw.{Flaw}
use Rattle.saved_run.specs.Texts.{flaw_text}
use Rattle.stream_run.specs.Outside.{Outside}
use Rattle.stream_run.specs.declared.status.Status.{Status}
use Rattle.snapshot_run.specs.LastLines.{EndsWith, ReadsNoItem}
use Rattle.snapshot_run.specs.declared.exit.Exit.{Exit}
use Rattle.snapshot_run.specs.declared.exit.Exit.TheVariants.{Plain, BadSnapshot}

-- `Did` says what the run did, by how it ended.
pub data Concludes (Did : Result Status Flaw → Outside → Outside → Type 0)
    (exit : Exit) (old new : Outside) : Type 0 where
  ended : (status : Status) → exit ≡ Plain status → Did (Ok status) old new
      → Concludes Did exit old new
  told : (flaw : Flaw) (between : Outside) → Did (Err flaw) old between → ReadsNoItem between new
      → EndsWith (flaw_text flaw) BadSnapshot exit between.taken new.taken
      → Concludes Did exit old new
