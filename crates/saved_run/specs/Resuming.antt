-- Statement. What a run did that goes on from a snapshot.
use Rattle.std.specs.Prelude.{◌≡◌, ℕ, List, Result, Ok, Err}
use Rattle.io_edge.specs.Lines.{Shown}
use Rattle.query_model.specs.Monitors.{Monitor}
use Rattle.rate_expr.specs.Words.{Word, IsWordOf}
use Rattle.runner_snapshot.specs.Bytes.{Snapshot}
use Rattle.runner_snapshot.specs.Dumps.{Runner}
use Rattle.runner_snapshot.specs.declared.flaw.Flaw.{Flaw}
use Rattle.runner_snapshot.specs.declared.flaw.Flaw.TheVariants.{Unfit}
use Rattle.stream_run.specs.Endings.{EndedBy}
use Rattle.stream_run.specs.Meanings.{IsMeaning, Meaning}
use Rattle.stream_run.specs.Output.{answers}
use Rattle.stream_run.specs.Outside.{Outside}
use Rattle.stream_run.specs.Replies.{AreRepliesTo}
use Rattle.stream_run.specs.Resumed.{layout_after, meaning_after}
use Rattle.stream_run.specs.declared.status.Status.{Status}
use Rattle.stream_run.specs.declared.status.Status.TheVariants.{Memory}

-- what a text is to the lines that it is written for, by a run that goes on from a snapshot: it has
-- a reply to each line, and if the dump stands for a word, the answers after this word, by every
-- function that gives the values of the query
pub record IsSaidFrom (means : Runner → Word → Type 0) (monitor : Monitor) (snapshot : Snapshot)
    (lines : List Shown) (text : List ℕ) : Type 0 where
  pub replies : AreRepliesTo (layout_after monitor.layout snapshot.began) lines text
  pub values : (word : Word) (meaning : Meaning) → IsWordOf monitor.layout.columns word
      → means snapshot.dump word → IsMeaning monitor meaning
      → text ≡ answers (meaning_after meaning word snapshot.began) lines

-- The dump fits, and the run ended so. If the dump does not fit, nothing was read or written.
abbrev pub Resumes : (Runner → Type 0) → (Runner → Word → Type 0) → Monitor → Snapshot
    → Result Status Flaw → Outside → Outside → Type 0
Resumes fits means monitor snapshot (Ok Memory) old new =
    EndedBy (IsSaidFrom means monitor snapshot) Memory old new
Resumes fits means monitor snapshot (Ok status) old new =
    fits snapshot.dump × EndedBy (IsSaidFrom means monitor snapshot) status old new
Resumes fits means monitor snapshot (Err Unfit) old new = (fits snapshot.dump → ⊥) × (new ≡ old)
Resumes fits means monitor snapshot (Err flaw) old new = ⊥
