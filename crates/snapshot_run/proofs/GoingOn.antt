-- What came of a snapshot that is bad, or that a run went on from.
use Rattle.std.proofs.Common.{◌≡◌, ℕ, List, Err, subst}
use Rattle.eval_snapshot.specs.Fits.{Fits}
use Rattle.query_compiler.specs.Compiled.{KeepsRules}
use Rattle.query_model.specs.Monitors.{Monitor}
use Rattle.runner_snapshot.specs.Bytes.{Snapshot}
use Rattle.runner_snapshot.specs.declared.flaw.Flaw.{Flaw}
use Rattle.runner_snapshot.specs.declared.flaw.Flaw.TheVariants.{Long, Head, Query, Form, Unfit}
use Rattle.saved_run.specs.Opened.{IsEarlyFlaw, IsFlawFor, IsOpened}
use Rattle.saved_run.specs.Texts.{flaw_text}
use Rattle.stream_run.specs.Outside.{Outside}
use Rattle.snapshot_run.specs.Concluded.{told}
use Rattle.snapshot_run.specs.GoingOn.{GoesOn, GoesOnFrom, bad, runs}
use Rattle.snapshot_run.specs.LastLines.{EndsWith, ReadsNoItem}
use Rattle.snapshot_run.specs.declared.command.Onward.{Onward}
use Rattle.snapshot_run.specs.declared.command.Onward.TheVariants.{Resume, Advance}
use Rattle.snapshot_run.specs.declared.exit.Exit.{Exit}
use Rattle.snapshot_run.specs.declared.exit.Exit.TheVariants.{BadSnapshot}

-- a flaw that is told before it is asked what fits is the flaw whatever fits
pub early_flaw : (bytes : List ℕ) (flaw : Flaw) → IsEarlyFlaw bytes flaw → IsFlawFor Fits bytes flaw
early_flaw bytes Long is = is
early_flaw bytes Head is = is
early_flaw bytes Query is = is
early_flaw bytes Form is = is
early_flaw bytes Unfit is = absurd is

module _ (bytes : List ℕ) (snapshot : Snapshot) (monitor : Monitor)
    (opened : IsOpened bytes snapshot monitor) (kept : KeepsRules monitor)
    (exit : Exit) (old between new : Outside) (none : ReadsNoItem between new) where
  -- what was kept does not fit the query, and nothing was read or written before that was told
  unfit : (onward : Onward)
      → (Fits monitor.layout.columns monitor.query snapshot.dump → ⊥) → between ≡ old
      → EndsWith (flaw_text Unfit) BadSnapshot exit between.taken new.taken
      → GoesOn onward bytes exit old new
  unfit onward never same ends =
      subst (λ (before : Outside). GoesOn onward bytes exit before new) same
      (bad Unfit (snapshot, monitor, opened, never) none ends)

  -- a run told a flaw
  pub goes_on_told : (onward : Onward) (flaw : Flaw)
      → GoesOnFrom onward monitor snapshot (Err flaw) old between
      → EndsWith (flaw_text flaw) BadSnapshot exit between.taken new.taken
      → GoesOn onward bytes exit old new
  goes_on_told Resume Unfit went ends = unfit Resume went.0 went.1 ends
  goes_on_told Resume flaw went ends = absurd went
  goes_on_told Advance Unfit went ends = unfit Advance went.0 went.1 ends
  goes_on_told Advance Long went ends =
      runs snapshot monitor opened kept (told Long between went none ends)
  goes_on_told Advance flaw went ends = absurd went
