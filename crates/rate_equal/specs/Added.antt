-- For the prover. Pairs that are appended to others, and the places of some of them.
use Rattle.std.specs.Prelude.{◌≡◌, ◌≤◌, ◌⊎◌, ◌+◌, ℕ, Bool, false, List, Some, length, slice_get}
use Rattle.std.specs.List.{Contains, IsDistinct}
use Rattle.rate_equal.specs.Pairs.{IsGrown}
use Rattle.rate_equal.specs.PlaceSets.{HasPlace}
use Rattle.rate_equal.specs.Reach.{max_reach}
use Rattle.rate_equal.specs.declared.pair.Pair.{Pair}

-- the set has the place of the pair
pub record HasPair (pairs : List Pair) (places : List ℕ) (pair : Pair) : Type 0 where
  pub place : ℕ
  pub found : slice_get pairs place ≡ Some pair
  pub has : HasPlace places place

-- only `wanted` pairs were appended to the old ones, and only places of `placed` pairs were added
-- to the set
pub record AreAdded (wanted placed : Pair → Type 0) (old : List Pair) (held : List ℕ)
    (new : List Pair) (places : List ℕ) : Type 0 where
  pub grown : IsGrown old new
  pub each : (pair : Pair) → Contains new pair → Contains old pair ⊎ wanted pair
  pub few : length new ≤ max_reach
  pub kept : (place : ℕ) → HasPlace held place → HasPlace places place
  pub more : (place : ℕ) → HasPlace places place
      → HasPlace held place ⊎ ((pair : Pair) × (slice_get new place ≡ Some pair) × placed pair)

-- together with `wanted` pairs, the old ones are more than the limit
pub record AreTooMany (old : List Pair) (wanted : Pair → Type 0) : Type 0 where
  pub eq : Pair → Pair → Bool
  pub unlike : (x y : Pair) → eq x y ≡ false → x ≡ y → ⊥
  pub pairs : List Pair
  pub distinct : IsDistinct eq pairs
  pub count : length pairs ≡ max_reach + 1
  pub each : (pair : Pair) → Contains pairs pair → Contains old pair ⊎ wanted pair
