-- For the prover. What adding an entry to a table gives.
use Rattle.std.specs.Prelude.{◌≡◌, ◌++◌, ℕ, List, [], ◌∷◌, None, Result, Ok, Err, is_some, true}
use Rattle.value_ops.specs.Entries.{value_at}
use Rattle.value_ops.specs.declared.scalar.Scalar.{Scalar}
use Rattle.runner_snapshot.specs.declared.flaw.Flaw.TheVariants.{Long, Head, Query, Form, Unfit}
use Rattle.runner_snapshot.specs.declared.flaw.SnapStop.{SnapStop}
use Rattle.runner_snapshot.specs.declared.flaw.SnapStop.TheVariants.{Bad, Memory}

-- the entry is the last one now, or its key stood in the table, or memory ran out
abbrev pub Adds : List (List ℕ × Scalar) → List ℕ → Scalar → Result (Unit {0}) SnapStop
    → List (List ℕ × Scalar) → Type 0
Adds old key scalar (Ok done) new =
    (value_at key old ≡ None) × (new ≡ old ++ (key, scalar) ∷ [])
Adds old key scalar (Err (Bad Form)) new = is_some (value_at key old) ≡ true
Adds old key scalar (Err (Bad Long)) new = ⊥
Adds old key scalar (Err (Bad Head)) new = ⊥
Adds old key scalar (Err (Bad Query)) new = ⊥
Adds old key scalar (Err (Bad Unfit)) new = ⊥
Adds old key scalar (Err Memory) new = Unit {0}
