-- Statement. What holds of the part of a line that is shown.
use Rattle.std.specs.Prelude.{◌≡◌, ◌≢◌, ◌≤◌, ℕ, ◌+◌, List, ◌++◌, length, take, drop, All}
use Rattle.place_in_text.specs.Places.{before_place, from_place}
use Rattle.place_in_text.specs.Windows.{max_shown}

-- these bytes, before the place and from it on, are a part of its line
pub record IsWindow (text : List ℕ) (place : ℕ) (before from : List ℕ) : Type 0 where
  -- the place is between them
  pub ends_there : (front : List ℕ) × (take place text ≡ front ++ before)
  pub begins_there : (rest : List ℕ) × (drop place text ≡ from ++ rest)
  -- no line ends in them
  pub one_line : All (λ byte. byte ≢ 10) before × All (λ byte. byte ≢ 10) from
  pub short : length before + length from ≤ max_shown
  -- a line that is not longer is shown whole
  pub whole : length (before_place text place) + length (from_place text place) ≤ max_shown
      → (before ≡ before_place text place) × (from ≡ from_place text place)
