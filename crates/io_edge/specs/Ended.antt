-- Statement. How a call reports the end of the input.
use Rattle.std.specs.Prelude.{◌≡◌, ◌≤◌, ℕ, List, Option}
use Rattle.std.specs.Io.KnownBytes.{IsAtEnd}
use Rattle.io_edge.specs.Counts.{next_count}

-- if the end was met, the count of ends is raised by one, and no byte is left if the bytes are
-- known; else the count is as it was
pub record MeetsEnd (before now : ℕ) (left : Option (List ℕ)) (met : Type 0) : Type 0 where
  pub later : before ≤ now
  pub at_end : met → (now ≡ next_count before) × IsAtEnd left
  pub else_same : (met → ⊥) → now ≡ before
