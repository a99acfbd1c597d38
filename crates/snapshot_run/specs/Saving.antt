-- Statement. What came of `save` for a query text.
use Rattle.std.specs.Prelude.{◌≡◌, ℕ, List, Result}
use Rattle.eval_snapshot.specs.Means.{Means}
use Rattle.language_base.specs.declared.refusal.Refusal.{Refusal}
use Rattle.query_compiler.specs.Compiled.{Compiles, KeepsRules}
use Rattle.query_model.specs.Monitors.{Monitor}
use Rattle.report_writer.specs.Texts.{refusal_text}
use Rattle.runner_snapshot.specs.declared.flaw.Flaw.{Flaw}
use Rattle.saved_run.specs.Saving.{Saves}
use Rattle.stream_run.specs.Outside.{Outside}
use Rattle.stream_run.specs.declared.status.Status.{Status}
use Rattle.stream_run.specs.declared.status.Status.TheVariants.{Refused, Memory}
use Rattle.type_checker.specs.Judged.{accepted, refused}
use Rattle.snapshot_run.specs.Concluded.{Concludes}
use Rattle.snapshot_run.specs.LastLines.{EndsWith, ReadsNoItem}
use Rattle.snapshot_run.specs.declared.exit.Exit.{Exit}
use Rattle.snapshot_run.specs.declared.exit.Exit.TheVariants.{Plain}

-- what the run of a query did whose snapshot has this text
abbrev pub SavesRun : List ℕ → Monitor → Result Status Flaw → Outside → Outside → Type 0
SavesRun text monitor result old new =
    Saves (Means monitor.layout.columns monitor.query) text monitor.layout result old new

pub data SavesText (text : List ℕ) (exit : Exit) (old new : Outside) : Type 0 where
  -- the text is refused, and the refusal was written
  refuses : (why : Refusal) → Compiles text (refused why) → ReadsNoItem old new
      → EndsWith (refusal_text why) (Plain Refused) exit old.taken new.taken
      → SavesText text exit old new
  -- it is compiled to a query, and the run of that was saved
  saves : (monitor : Monitor) → Compiles text (accepted monitor) → KeepsRules monitor
      → Concludes (SavesRun text monitor) exit old new → SavesText text exit old new
  -- there was no memory to know which
  unknown : exit ≡ Plain Memory → new ≡ old → SavesText text exit old new
