-- Statement. What a call leaves waiting in its sink, and how it reports a fault of its sink or of a
-- source. `fault` is the one result by which the call reports that fault.
use Rattle.std.specs.Prelude.{◌≡◌, ℕ}
use Rattle.io_edge.specs.Counts.{FailsBy}

-- after the call no byte waits to be flushed, unless it reports the fault of the sink
abbrev pub EndsFlushed : {T W : Type 0} → T → T → (W → ℕ) → W → Type 0
EndsFlushed result fault held new = (result ≡ fault → ⊥) → held new ≡ 0

-- the same, if no byte waited before the call
abbrev pub LeavesFlushed : {T W : Type 0} → T → T → (W → ℕ) → W → W → Type 0
LeavesFlushed result fault held old new = held old ≡ 0 → EndsFlushed result fault held new

-- the count of faults of the sink or source is one more if the call reports its fault, and else it
-- is as it was
abbrev pub ReportsFault : {T O : Type 0} → T → T → (O → ℕ) → O → O → Type 0
ReportsFault result fault faults old new = FailsBy (faults old) (faults new) (result ≡ fault)
