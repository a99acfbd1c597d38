-- Statement. What the bytes of a snapshot are, and which flaw is told of them. A flaw is told only
-- where none that is asked before it holds: the bytes are too many, they do not begin as a snapshot
-- does, they are no snapshot, the query text is refused, the dump does not fit the query.
use Rattle.std.specs.Prelude.{◌≡◌, ◌≤◌, ◌⊎◌, ℕ, ◌+◌, List, length, Option, Result, Ok, Err}
use Rattle.io_edge.specs.Taken.{TakesFewer, TakesFirst}
use Rattle.language_base.specs.declared.refusal.Refusal.{Refusal}
use Rattle.item_schema.specs.declared.column.Column.{Column}
use Rattle.query_compiler.specs.Compiled.{Compiles}
use Rattle.query_model.specs.Monitors.{Monitor}
use Rattle.query_model.specs.Queries.{Qre}
use Rattle.runner_snapshot.specs.Bytes.{Snapshot, snapshot_bytes}
use Rattle.runner_snapshot.specs.Dumps.{Runner}
use Rattle.runner_snapshot.specs.Ranges.{IsSnapshot}
use Rattle.runner_snapshot.specs.Stops.{IsFlawOf, max_snapshot}
use Rattle.runner_snapshot.specs.declared.flaw.Flaw.{Flaw}
use Rattle.runner_snapshot.specs.declared.flaw.Flaw.TheVariants.{Long, Head, Query, Form, Unfit}
use Rattle.type_checker.specs.Judged.{accepted, refused}
use Rattle.saved_run.specs.declared.opening.OpenStop.{OpenStop}
use Rattle.saved_run.specs.declared.opening.OpenStop.TheVariants as stop

-- these are the bytes of the snapshot, and not too many
pub record IsSpelled (bytes : List ℕ) (snapshot : Snapshot) : Type 0 where
  pub few : length bytes ≤ max_snapshot
  pub is_snapshot : IsSnapshot snapshot
  pub bytes_are : bytes ≡ snapshot_bytes snapshot

-- these are the bytes of the snapshot, and its text is compiled to a query with this monitor
pub record IsOpened (bytes : List ℕ) (snapshot : Snapshot) (monitor : Monitor) : Type 0 where
  pub spelled : IsSpelled bytes snapshot
  pub compiled : Compiles snapshot.text (accepted monitor)

-- the flaw that is told of these bytes, where `Fits` says which dumps fit a query on a stream of
-- these columns
abbrev pub IsFlawFor : (List Column → Qre → Runner → Type 0) → List ℕ → Flaw → Type 0
IsFlawFor Fits bytes Long = IsFlawOf bytes Long
IsFlawFor Fits bytes Head = IsFlawOf bytes Head
IsFlawFor Fits bytes Form = IsFlawOf bytes Form
IsFlawFor Fits bytes Query = (snapshot : Snapshot) × (why : Refusal) × IsSpelled bytes snapshot
    × Compiles snapshot.text (refused why)
IsFlawFor Fits bytes Unfit = (snapshot : Snapshot) × (monitor : Monitor)
    × IsOpened bytes snapshot monitor
    × (Fits monitor.layout.columns monitor.query snapshot.dump → ⊥)

-- the same of a flaw that is told before it is asked whether the dump fits
abbrev pub IsEarlyFlaw : List ℕ → Flaw → Type 0
IsEarlyFlaw bytes Unfit = ⊥
IsEarlyFlaw bytes flaw = IsFlawFor (λ columns query dump. ⊥) bytes flaw

-- the snapshot is not opened for such a flaw, or since the source failed or memory ran out
abbrev pub IsBadFor : List ℕ → OpenStop → Type 0
IsBadFor bytes (stop.Bad flaw) = IsEarlyFlaw bytes flaw
IsBadFor bytes stop.Failed = Unit {0}
IsBadFor bytes stop.Memory = Unit {0}

-- the most bytes that are read of a snapshot: one more than it may have
abbrev pub max_read : ℕ
max_read = max_snapshot + 1

-- What was known of the source before and after a call: the bytes that are left, and the count of
-- ends.
module _ (left left' : Option (List ℕ)) (ends ends' : ℕ) where
  -- it was read once: to its first end, or until there were more bytes than a snapshot may have
  abbrev pub ReadsSnapshot : Type 0
  ReadsSnapshot = (got : List ℕ) × TakesFirst max_read left left' ends ends' got

  -- what was read, if this is the result
  abbrev pub ReadsFor : {A : Type 0} → Result A OpenStop → Type 0
  ReadsFor (Ok opened) = ReadsSnapshot
  ReadsFor (Err stop.Failed) = TakesFewer max_read left left' ends ends'
  ReadsFor (Err (stop.Bad flaw)) = ReadsSnapshot
  ReadsFor (Err stop.Memory) = ((left' ≡ left) × (ends' ≡ ends)) ⊎ ReadsSnapshot
