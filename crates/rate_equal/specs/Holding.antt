-- For the prover. Which pairs, and which letters, have a position.
use Rattle.std.specs.Prelude.{◌≡◌, ◌≤◌, ◌<◌, ◌↔◌, ◌+◌, ◌*◌, ◌/◌, ◌%◌, ℕ, List, Some, slice_get}
use Rattle.std.specs.Prelude.{slice_index}
use Rattle.rate_expr.specs.Sets.{Has}
use Rattle.rate_equal.specs.Pairs.{mask_of}
use Rattle.rate_equal.specs.PlaceSets.{block_count}
use Rattle.rate_equal.specs.Reach.{max_reach}
use Rattle.rate_equal.specs.declared.letters.Letter.{Letter}
use Rattle.rate_equal.specs.declared.pair.Pair.{Pair}

-- the place is in the row of the position, where each position has a row of blocks
pub record HasRow (rows : List ℕ) (position place : ℕ) : Type 0 where
  pub bit : Has (slice_index rows (position * block_count + place / 128)) (place % 128)

-- the place is in the rows of all positions in the mask
abbrev pub IsInRows : List ℕ → ℕ → ℕ → Type 0
IsInRows rows mask place = (position : ℕ) → Has mask position → HasRow rows position place

-- no place is taken out of a row
abbrev pub KeepsRows : List ℕ → List ℕ → Type 0
KeepsRows old new = (position place : ℕ) → HasRow old position place → HasRow new position place

-- The place of each pair before `end` is in the rows of its positions, and in no other row. No
-- place from there on is in a row.
pub record AreHeld (first second : List ℕ) (pairs : List Pair) (end : ℕ) : Type 0 where
  pub one : (place position : ℕ) (pair : Pair) → place < end → slice_get pairs place ≡ Some pair
      → Has (mask_of pair.first) position ↔ HasRow first position place
  pub two : (place position : ℕ) (pair : Pair) → place < end → slice_get pairs place ≡ Some pair
      → Has (mask_of pair.second) position ↔ HasRow second position place
  pub none : (place position : ℕ) → end ≤ place → place < max_reach
      → (HasRow first position place → ⊥) × (HasRow second position place → ⊥)

-- the row of a position of the first rows equals that of a position of the second
abbrev pub HaveSameRow : List ℕ → List ℕ → ℕ → ℕ → Type 0
HaveSameRow first second one other = (place : ℕ) → place < max_reach
    → HasRow first one place ↔ HasRow second other place

-- the mask of each position of the second rows has only positions of the first that have the same
-- row
abbrev pub AreTwins : List ℕ → List ℕ → List ℕ → Type 0
AreTwins first second twins = (position twin : ℕ) → Has (slice_index twins position) twin
    → HaveSameRow first second twin position

-- the place of each letter before `end` is in the rows of the positions in its mask, and in no
-- other row
pub record AreRows (mask : Letter → ℕ) (rows : List ℕ) (letters : List Letter)
    (end : ℕ) : Type 0 where
  pub has : (place position : ℕ) (letter : Letter) → place < end
      → slice_get letters place ≡ Some letter → Has (mask letter) position
      → HasRow rows position place
  pub only : (place position : ℕ) (letter : Letter) → place < max_reach
      → slice_get letters place ≡ Some letter → HasRow rows position place
      → (place < end) × Has (mask letter) position
