-- Statement. What a run did that is saved in place of being answered.
use Rattle.std.specs.Prelude.{◌≡◌, ◌<◌, ◌≤◌, ◌^◌, ℕ, Bool, false, List, length, Option, IfSome}
use Rattle.std.specs.Prelude.{Result, Ok, Err}
use Rattle.std.specs.Io.KnownBytes.{Appends, Consumes}
use Rattle.io_edge.specs.Counts.{next_count}
use Rattle.io_edge.specs.Limits.{max_count}
use Rattle.io_edge.specs.Written.{AppendsSome}
use Rattle.item_schema.specs.Layout.{Layout}
use Rattle.rate_expr.specs.Words.{Word}
use Rattle.runner_snapshot.specs.Bytes.{snapshot_bytes, snapshot_with}
use Rattle.runner_snapshot.specs.Dumps.{Runner}
use Rattle.runner_snapshot.specs.Ranges.{IsSnapshot}
use Rattle.runner_snapshot.specs.Stops.{max_snapshot}
use Rattle.runner_snapshot.specs.declared.flaw.Flaw.{Flaw}
use Rattle.runner_snapshot.specs.declared.flaw.Flaw.TheVariants.{Long}
use Rattle.stream_run.specs.Outside.{MeetsOneAtMost, Outside}
use Rattle.stream_run.specs.Resumed.{is_some_byte, items_after}
use Rattle.stream_run.specs.declared.status.Status.{Status}
use Rattle.stream_run.specs.declared.status.Status.TheVariants.{Done}
use Rattle.stream_run.specs.declared.status.Status.TheVariants.{ItemFault, SinkFault, Memory, Limit}

-- these are the bytes of a snapshot of a query text, and of whether lines have come
abbrev pub IsSnapshotOf : List ℕ → Bool → List ℕ → Type 0
IsSnapshotOf text began bytes =
    (dump : Runner) × (bytes ≡ snapshot_bytes (snapshot_with text began dump))

-- these are such bytes, and the dump of their snapshot stands for this word; if they are not too
-- many, and the word is at most 2^62 long, they can be read again
pub record IsSavedAfter (means : Runner → Word → Type 0) (text : List ℕ) (began : Bool)
    (word : Word) (bytes : List ℕ) : Type 0 where
  pub dump : Runner
  pub stands : means dump word
  pub bytes_are : bytes ≡ snapshot_bytes (snapshot_with text began dump)
  pub spelled : length bytes ≤ max_snapshot → length word ≤ 2 ^ 62
      → IsSnapshot (snapshot_with text began dump)

-- the same of the items of these bytes, if they are known
abbrev pub IsSavedFor : (Runner → Word → Type 0) → List ℕ → Layout → Option (List ℕ) → List ℕ
    → Type 0
IsSavedFor means text layout left bytes = IfSome left (λ items.
    IsSavedAfter means text (is_some_byte items) (items_after layout false items) bytes)

-- Without a fault the snapshot of all items was written, and nothing else. If it is too long,
-- nothing was written, and so it is if the items failed, or had no end, or memory ran out.
abbrev pub Saves : (Runner → Word → Type 0) → List ℕ → Layout → Result Status Flaw → Outside
    → Outside → Type 0
Saves means text layout (Ok Done) old new = (new.ends ≡ next_count old.ends) × (bytes : List ℕ)
    × (length bytes ≤ max_snapshot) × IsSavedFor means text layout old.left bytes
    × Appends old.taken new.taken bytes
Saves means text layout (Ok SinkFault) old new = (new.ends ≡ next_count old.ends)
    × (bytes : List ℕ) × (length bytes ≤ max_snapshot)
    × IsSavedFor means text layout old.left bytes × AppendsSome old.taken new.taken bytes
Saves means text layout (Ok ItemFault) old new = (new.ends ≡ old.ends) × (got : List ℕ)
    × Consumes old.left new.left got × (new.taken ≡ old.taken)
Saves means text layout (Ok Memory) old new =
    MeetsOneAtMost old.ends new.ends × (new.taken ≡ old.taken)
Saves means text layout (Ok Limit) old new = (new.ends ≡ old.ends) × (got : List ℕ)
    × (length got ≡ max_count) × Consumes old.left new.left got × (new.taken ≡ old.taken)
Saves means text layout (Ok status) old new = ⊥
Saves means text layout (Err Long) old new = (new.ends ≡ next_count old.ends) × (bytes : List ℕ)
    × (max_snapshot < length bytes) × IsSavedFor means text layout old.left bytes
    × (new.taken ≡ old.taken)
Saves means text layout (Err flaw) old new = ⊥
