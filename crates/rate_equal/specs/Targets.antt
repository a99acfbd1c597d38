-- For the prover. The targets of letters along ways on.
use Rattle.std.specs.Prelude.{◌≡◌, ◌≤◌, ◌⊎◌, ℕ, List, Some, bit_and, length, slice_get}
use Rattle.std.specs.List.{Contains}
use Rattle.rate_expr.specs.declared.state.State.TheVariants.{At}
use Rattle.rate_equal.specs.Added.{AreAdded, HasPair}
use Rattle.rate_equal.specs.Narrowed.{AreStatesWithin, narrowed}
use Rattle.rate_equal.specs.Pairs.{IsGrown}
use Rattle.rate_equal.specs.PlaceSets.{HasPlace}
use Rattle.rate_equal.specs.Reach.{max_reach}
use Rattle.rate_equal.specs.declared.known_sets.Known.{Known}
use Rattle.rate_equal.specs.declared.letters.Letter.{Letter}
use Rattle.rate_equal.specs.declared.pair.Pair.{Pair}

-- the target of a letter along ways on: the positions on the ways that it has
abbrev pub target : ℕ × ℕ → Letter → Pair
target ways letter = record {
  first = At (bit_and ways.0 letter.first);
  second = At (bit_and ways.1 letter.second);
}

-- the pair is the target of some letter
abbrev pub IsTarget : List Letter → ℕ × ℕ → Pair → Type 0
IsTarget letters ways pair =
    (letter : Letter) × Contains letters letter × (target ways letter ≡ pair)

-- only targets of letters were appended to the old pairs, and only places of pairs within the ways
-- were added to the set
abbrev pub AreAlong : List Letter → ℕ × ℕ → List Pair → List ℕ → List Pair → List ℕ → Type 0
AreAlong letters ways old held new places =
    AreAdded (IsTarget letters ways) (AreStatesWithin ways) old held new places

-- the set has the place of the target of each letter for whose place `at` holds
abbrev pub HasThose : List Letter → (ℕ → Type 0) → ℕ × ℕ → List Pair → List ℕ → Type 0
HasThose letters at ways pairs places = (place : ℕ) (letter : Letter) → at place
    → slice_get letters place ≡ Some letter → HasPair pairs places (target ways letter)

-- the set has the places of the targets of all letters, and only places of pairs within the ways
pub record HasTargets (letters : List Letter) (ways : ℕ × ℕ) (pairs : List Pair)
    (places : List ℕ) : Type 0 where
  pub within : (place : ℕ) → HasPlace places place
      → (pair : Pair) × (slice_get pairs place ≡ Some pair) × AreStatesWithin ways pair
  pub whole : (letter : Letter) → Contains letters letter
      → HasPair pairs places (target ways letter)

-- only targets of letters were appended to the old pairs, and the set has the places of all targets
pub record AreFound (letters : List Letter) (ways : ℕ × ℕ) (old new : List Pair)
    (places : List ℕ) : Type 0 where
  pub grown : IsGrown old new
  pub each : (pair : Pair) → Contains new pair → Contains old pair ⊎ IsTarget letters ways pair
  pub few : length new ≤ max_reach
  pub targets : HasTargets letters ways new places

-- for each of the known ways, the set has the places of all targets
abbrev pub AreKnown : List Letter → List Pair → List Known → Type 0
AreKnown letters pairs gone = (known : Known) → Contains gone known
    → HasTargets letters known.ways pairs known.targets

-- the set has each known target, cut down to the ways, to which a letter leads along them
abbrev pub HasNarrowed : List Letter → ℕ × ℕ → List Pair → List ℕ → List Pair → List ℕ → Type 0
HasNarrowed letters ways old known new places = (pair : Pair) → HasPair old known pair
    → IsTarget letters ways (narrowed ways pair) → HasPair new places (narrowed ways pair)
