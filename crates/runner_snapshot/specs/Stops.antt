-- Statement. What is wrong with bytes that are no snapshot.
use Rattle.std.specs.Prelude.{◌≡◌, ◌<◌, ◌≤◌, ℕ, List, ◌++◌, length}
use Rattle.runner_snapshot.specs.declared.flaw.Flaw.{Flaw}
use Rattle.runner_snapshot.specs.declared.flaw.Flaw.TheVariants.{Long, Head, Query, Form, Unfit}
use Rattle.runner_snapshot.specs.declared.flaw.SnapStop.{SnapStop}
use Rattle.runner_snapshot.specs.declared.flaw.SnapStop.TheVariants.{Bad, Memory}
use Rattle.runner_snapshot.specs.Bytes.{Snapshot, head, snapshot_bytes}
use Rattle.runner_snapshot.specs.Ranges.{IsSnapshot}

-- the bytes of a snapshot, at the most
abbrev pub max_snapshot : ℕ
max_snapshot = 67108864

-- the bytes begin as a snapshot does
abbrev pub HasHead : List ℕ → Type 0
HasHead bytes = (rest : List ℕ) × (bytes ≡ head ++ rest)

-- the flaw is the first that the bytes have; what the bytes say of a query is not looked at
abbrev pub IsFlawOf : List ℕ → Flaw → Type 0
IsFlawOf bytes Long = max_snapshot < length bytes
IsFlawOf bytes Head = (length bytes ≤ max_snapshot) × (HasHead bytes → ⊥)
IsFlawOf bytes Form =
    (length bytes ≤ max_snapshot) × HasHead bytes
    × ((snapshot : Snapshot) → IsSnapshot snapshot → bytes ≡ snapshot_bytes snapshot → ⊥)
IsFlawOf bytes Query = ⊥
IsFlawOf bytes Unfit = ⊥

-- the same, or memory ran out
abbrev pub IsStopOf : List ℕ → SnapStop → Type 0
IsStopOf bytes (Bad flaw) = IsFlawOf bytes flaw
IsStopOf bytes Memory = Unit {0}

-- the bytes are too many for a snapshot, or memory ran out
abbrev pub IsTooLong : List ℕ → SnapStop → Type 0
IsTooLong bytes (Bad Long) = max_snapshot < length bytes
IsTooLong bytes (Bad Head) = ⊥
IsTooLong bytes (Bad Query) = ⊥
IsTooLong bytes (Bad Form) = ⊥
IsTooLong bytes (Bad Unfit) = ⊥
IsTooLong bytes Memory = Unit {0}

-- what would fit does not, or memory ran out
abbrev pub IsUnfit : Type 0 → SnapStop → Type 0
IsUnfit fits (Bad Unfit) = fits → ⊥
IsUnfit fits (Bad Long) = ⊥
IsUnfit fits (Bad Head) = ⊥
IsUnfit fits (Bad Query) = ⊥
IsUnfit fits (Bad Form) = ⊥
IsUnfit fits Memory = Unit {0}
