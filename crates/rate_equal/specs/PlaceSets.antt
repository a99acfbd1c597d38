-- For the prover. Sets of places in a list, as blocks of 128 bits.
use Rattle.std.specs.Prelude.{◌≡◌, ◌⊎◌, ◌↔◌, ◌/◌, ◌%◌, ℕ, List, slice_index}
use Rattle.rate_expr.specs.Sets.{Has}

-- how many blocks a set has
abbrev pub block_count : ℕ
block_count = 32

-- the place is in the set
pub record HasPlace (places : List ℕ) (place : ℕ) : Type 0 where
  pub bit : Has (slice_index places (place / 128)) (place % 128)

-- the place was added to the set
abbrev pub AddsPlace : List ℕ → List ℕ → ℕ → Type 0
AddsPlace old new place = (other : ℕ) → HasPlace new other ↔ (HasPlace old other ⊎ (place ≡ other))

-- the places of a block whose bits are in a mask were added
abbrev pub AddsBlock : List ℕ → List ℕ → ℕ → ℕ → Type 0
AddsBlock old new block mask = (other : ℕ)
    → HasPlace new other ↔ (HasPlace old other ⊎ ((other / 128 ≡ block) × Has mask (other % 128)))

-- no place was taken out
abbrev pub KeepsPlaces : List ℕ → List ℕ → Type 0
KeepsPlaces old new = (place : ℕ) → HasPlace old place → HasPlace new place

-- no place was taken out of other blocks, nor one of the block whose bit is in the mask
abbrev pub KeepsBlock : List ℕ → List ℕ → ℕ → ℕ → Type 0
KeepsBlock old new block mask = (place : ℕ) → HasPlace old place
    → (place / 128 ≡ block → Has mask (place % 128)) → HasPlace new place

-- the place is in the block, and its bit is in the mask
abbrev pub IsIn : ℕ → ℕ → ℕ → Type 0
IsIn block mask place = (place / 128 ≡ block) × Has mask (place % 128)
