-- For the prover. What takes bytes, one after the other.
use Rattle.std.specs.Prelude.{ℕ, List, ◌++◌}

-- after whatever it got before, it got these
abbrev pub Gets : {O : Type 0} → (O → List ℕ → Type 0) → O → List ℕ → O → Type 0
Gets got old bytes new = (before : List ℕ) → got old before → got new (before ++ bytes)
