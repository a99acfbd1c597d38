-- For the prover. The snapshot of what a session follows.
use Rattle.std.specs.Prelude.{◌<◌, ◌≤◌, ℕ, Bool, List, length, Result, Ok, Err}
use Rattle.rate_expr.specs.Words.{Word}
use Rattle.runner_snapshot.specs.Dumps.{Runner}
use Rattle.runner_snapshot.specs.Stops.{max_snapshot}
use Rattle.runner_snapshot.specs.declared.flaw.Flaw.TheVariants.{Long}
use Rattle.runner_snapshot.specs.declared.flaw.SnapStop.{SnapStop}
use Rattle.runner_snapshot.specs.declared.flaw.SnapStop.TheVariants.{Bad, Memory}
use Rattle.saved_run.specs.Saving.{IsSavedAfter, IsSnapshotOf}

-- these are the bytes of a snapshot, and whichever word is followed, of one after it
pub record AreSavedOf (means : Runner → Word → Type 0) (follows : Word → Type 0) (text : List ℕ)
    (began : Bool) (bytes : List ℕ) : Type 0 where
  pub is_snapshot : IsSnapshotOf text began bytes
  pub after : (word : Word) → follows word → IsSavedAfter means text began word bytes

-- there are such bytes, and not too many, or too many, which is told; or memory ran out
abbrev pub IsKept : (List ℕ → Type 0) → Result (List ℕ) SnapStop → Type 0
IsKept Saved (Ok bytes) = (length bytes ≤ max_snapshot) × Saved bytes
IsKept Saved (Err (Bad Long)) = (bytes : List ℕ) × (max_snapshot < length bytes) × Saved bytes
IsKept Saved (Err (Bad flaw)) = ⊥
IsKept Saved (Err Memory) = Unit {0}
