-- For the prover. Masks that are known, with one more.
use Rattle.std.specs.Prelude.{◌≡◌, ◌⊎◌, ℕ, List}
use Rattle.std.specs.List.{Contains}

-- the mask is added to the others
pub record IsPut (old new : List ℕ) (mask : ℕ) : Type 0 where
  pub kept : (other : ℕ) → Contains old other → Contains new other
  pub only : (other : ℕ) → Contains new other → Contains old other ⊎ (mask ≡ other)
  pub has : Contains new mask
