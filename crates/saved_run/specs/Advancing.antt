-- Statement. What a run did that goes on from a snapshot, and is saved after it was answered.
use Rattle.std.specs.Prelude.{◌≡◌, ◌⊎◌, ◌<◌, ◌≤◌, ℕ, ◌||◌, true, List, ◌++◌, length, IfSome}
use Rattle.std.specs.Prelude.{Result, Ok, Err}
use Rattle.std.specs.Io.KnownBytes.{Appends}
use Rattle.io_edge.specs.Counts.{next_count}
use Rattle.io_edge.specs.Lines.{lines}
use Rattle.io_edge.specs.Written.{AppendsSome}
use Rattle.query_model.specs.Monitors.{Monitor}
use Rattle.rate_expr.specs.Words.{Word}
use Rattle.runner_snapshot.specs.Bytes.{Snapshot}
use Rattle.runner_snapshot.specs.Dumps.{Runner}
use Rattle.runner_snapshot.specs.Stops.{max_snapshot}
use Rattle.runner_snapshot.specs.declared.flaw.Flaw.{Flaw}
use Rattle.runner_snapshot.specs.declared.flaw.Flaw.TheVariants.{Long, Unfit}
use Rattle.stream_run.specs.Endings.{EndedBy}
use Rattle.stream_run.specs.Outside.{Outside}
use Rattle.stream_run.specs.Resumed.{is_some_byte, items_after}
use Rattle.stream_run.specs.declared.status.Status.{Status}
use Rattle.stream_run.specs.declared.status.Status.TheVariants.{Done, SinkFault, Memory}
use Rattle.saved_run.specs.Resuming.{IsSaidFrom}
use Rattle.saved_run.specs.Saving.{IsSavedAfter, IsSnapshotOf}
use Rattle.saved_run.specs.Texts.{snapshot_text}

-- what bytes are to the items of a run that goes on from a snapshot: those of a snapshot of the same
-- text, in which a line has come if one had come before or there are items; and if the dump stands
-- for a word, of one after this word and the items
pub record IsSavedFrom (means : Runner → Word → Type 0) (monitor : Monitor) (snapshot : Snapshot)
    (items bytes : List ℕ) : Type 0 where
  pub is_snapshot : IsSnapshotOf snapshot.text (snapshot.began || is_some_byte items) bytes
  pub after : (word : Word) → means snapshot.dump word
      → IsSavedAfter means snapshot.text (snapshot.began || is_some_byte items)
      (word ++ items_after monitor.layout snapshot.began items) bytes

-- what all items gave: the answers to all lines, and the bytes of the snapshot after them
pub record IsAdvanced (means : Runner → Word → Type 0) (monitor : Monitor) (snapshot : Snapshot)
    (items answers bytes : List ℕ) : Type 0 where
  pub answered : IsSaidFrom means monitor snapshot (lines items true) answers
  pub saved : IsSavedFrom means monitor snapshot items bytes

-- all items were read to their end, and this holds of what they gave, if their bytes are known
abbrev pub TakesAll : (Runner → Word → Type 0) → Monitor → Snapshot → Outside → Outside
    → (List ℕ → List ℕ → Type 0) → Type 0
TakesAll means monitor snapshot old new Holds =
    (new.ends ≡ next_count old.ends) × IfSome old.left (λ items.
    (answers : List ℕ) × (bytes : List ℕ)
    × IsAdvanced means monitor snapshot items answers bytes × Holds answers bytes)

module _ (old new : Outside) (answers bytes : List ℕ) where
  -- all answers and the whole snapshot were written
  abbrev pub WritesAll : Type 0
  WritesAll = (length bytes ≤ max_snapshot)
      × Appends old.taken new.taken (answers ++ snapshot_text bytes)

  -- a front of these was written
  abbrev pub WritesFront : Type 0
  WritesFront = (length bytes ≤ max_snapshot)
      × AppendsSome old.taken new.taken (answers ++ snapshot_text bytes)

  -- the snapshot is too long, and all answers were written and nothing more
  abbrev pub WritesAnswers : Type 0
  WritesAnswers = (max_snapshot < length bytes) × Appends old.taken new.taken answers

-- The dump fits. Without a fault the answers were written, then the length of the new snapshot,
-- and then the new snapshot. If that is too long, only the answers were written. Otherwise the run
-- ended as a resumed run does, or memory ran out or the sink failed after all answers.
abbrev pub Advances : (Runner → Type 0) → (Runner → Word → Type 0) → Monitor → Snapshot
    → Result Status Flaw → Outside → Outside → Type 0
Advances fits means monitor snapshot (Ok Done) old new = fits snapshot.dump
    × TakesAll means monitor snapshot old new (WritesAll old new)
Advances fits means monitor snapshot (Ok SinkFault) old new = fits snapshot.dump
    × (EndedBy (IsSaidFrom means monitor snapshot) SinkFault old new
    ⊎ TakesAll means monitor snapshot old new (WritesFront old new))
Advances fits means monitor snapshot (Ok Memory) old new =
    EndedBy (IsSaidFrom means monitor snapshot) Memory old new
    ⊎ EndedBy (IsSaidFrom means monitor snapshot) Done old new
Advances fits means monitor snapshot (Ok status) old new =
    fits snapshot.dump × EndedBy (IsSaidFrom means monitor snapshot) status old new
Advances fits means monitor snapshot (Err Long) old new = fits snapshot.dump
    × TakesAll means monitor snapshot old new (WritesAnswers old new)
Advances fits means monitor snapshot (Err Unfit) old new = (fits snapshot.dump → ⊥) × (new ≡ old)
Advances fits means monitor snapshot (Err flaw) old new = ⊥
