-- Statement. What there is to report of a query is a text of sections, one for each kind of thing.
use Rattle.std.specs.Prelude.{◌≡◌, ℕ, List, ◌++◌}

-- a section that is such was written after a text
abbrev pub Adds : (List ℕ → Type 0) → List ℕ → List ℕ → Type 0
Adds IsSuch old new = (section : List ℕ) × IsSuch section × (new ≡ old ++ section)
