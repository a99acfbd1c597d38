-- For the prover. Pairs of masks that are known, with one more.
use Rattle.std.specs.Prelude.{◌≡◌, ◌⊎◌, ℕ, List}
use Rattle.std.specs.List.{Contains}

-- the pair of masks is added to the others
pub record IsPut (old new : List (ℕ × ℕ)) (masks : ℕ × ℕ) : Type 0 where
  pub kept : (other : ℕ × ℕ) → Contains old other → Contains new other
  pub only : (other : ℕ × ℕ) → Contains new other → Contains old other ⊎ (masks ≡ other)
  pub has : Contains new masks
