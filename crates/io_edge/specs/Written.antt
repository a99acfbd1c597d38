-- Statement. What a sink took of the bytes that it was given, and how many of them wait to be
-- flushed.
use Rattle.std.specs.Prelude.{◌≡◌, ◌≤◌, ◌+◌, ℕ, List, ◌++◌, Option, Result, MatchResult}
use Rattle.std.specs.Io.KnownBytes.{Appends}

-- some of the first bytes, or all of them, were taken
abbrev pub AppendsSome : Option (List ℕ) → Option (List ℕ) → List ℕ → Type 0
AppendsSome old new bytes =
    (front : List ℕ) × (rest : List ℕ) × (bytes ≡ front ++ rest) × Appends old new front

-- the bytes that a write took may wait to be flushed, but none that was flushed before waits again
abbrev pub HoldsNoMore : {E : Type 0} → ℕ → ℕ → Result ℕ E → Type 0
HoldsNoMore old new result = MatchResult result (λ n. new ≤ old + n) (λ _. new ≤ old)

-- after a flush nothing waits; if it fails, no more waits than before
abbrev pub Flushes : {T E : Type 0} → ℕ → ℕ → Result T E → Type 0
Flushes old new result = MatchResult result (λ _. new ≡ 0) (λ _. new ≤ old)
