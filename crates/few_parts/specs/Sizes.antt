-- Statement. How many numbers a record has.
use Rattle.std.specs.Prelude.{ℕ, ◌≤◌}

-- two to eight
abbrev pub IsRecordSize : ℕ → Type 0
IsRecordSize size = (2 ≤ size) × (size ≤ 8)
