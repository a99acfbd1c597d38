-- For the prover. Positions that letters can lack.
use Rattle.std.specs.Prelude.{◌↔◌, ℕ, List}
use Rattle.std.specs.List.{All, Contains}
use Rattle.rate_equal.specs.Patterns.{HasAt, HaveSame, HaveSameAt, positions_of}
use Rattle.rate_equal.specs.declared.letters.Letter.{Letter}
use Rattle.rate_equal.specs.declared.pattern.Position.{Position}

-- the one letter has the positions of the other but for those in the masks
abbrev pub IsWithout : ℕ × ℕ → Letter → Letter → Type 0
IsWithout masks letter other = (position : Position) → HasAt (positions_of other) position
    ↔ (HasAt (positions_of letter) position × (HasAt masks position → ⊥))

-- some letter has the positions of this one but for those in the masks
pub record HasOther (letters : List Letter) (masks : ℕ × ℕ) (letter : Letter) : Type 0 where
  pub other : Letter
  pub is_letter : Contains letters other
  pub without : IsWithout masks letter other

-- some letter has the positions of this one
pub record IsMet (letters : List Letter) (letter : Letter) : Type 0 where
  pub other : Letter
  pub is_letter : Contains letters other
  pub same : (position : Position) → HaveSameAt position letter other

-- each letter without the positions is a letter too
pub record AreFree (letters : List Letter) (masks : ℕ × ℕ) : Type 0 where
  pub each : (letter : Letter) → Contains letters letter → HasOther letters masks letter

-- each of the pairs of masks is free
abbrev pub AreAllFree : List Letter → List (ℕ × ℕ) → Type 0
AreAllFree letters free = All (AreFree letters) free

-- what is known of the positions of either automaton is free
pub record AreKnownFree (letters : List Letter) (first second : List (ℕ × ℕ)) : Type 0 where
  pub of_first : AreAllFree letters first
  pub of_second : AreAllFree letters second

-- for each letter some letter has the same of the ways, and lacks the positions
abbrev pub CanLack : List Letter → ℕ × ℕ → ℕ × ℕ → Type 0
CanLack letters masks ways = (letter : Letter) → Contains letters letter
    → (other : Letter) × Contains letters other × HaveSame ways letter other
    × ((position : Position) → HasAt masks position → HasAt (positions_of other) position → ⊥)
