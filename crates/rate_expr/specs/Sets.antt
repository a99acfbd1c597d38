-- Statement. The sets of a position automaton.
use Rattle.std.specs.Prelude.{◌≡◌, ◌≤◌, ◌<◌, ◌^◌, ℕ, Bool, List, length}
use Rattle.std.specs.Int.{bit_at}
use Rattle.std.specs.List.{AllByRecursion}
use Rattle.language_base.specs.Limits.{max_positions}
use Rattle.predicates.specs.Predicates.{Predicate}

-- whether the empty word is in the rate, at which positions words begin and end, which positions
-- may follow each position, and which predicate each has; a set of positions is a mask
pub record Sets : Type 0 where
  pub nullable : Bool
  pub first : ℕ
  pub last : ℕ
  pub follow : List ℕ
  pub preds : List Predicate

-- the position is in the mask
abbrev pub Has : ℕ → ℕ → Type 0
Has mask position = bit_at mask position ≡ 1

-- it is in the mask, and no lower one is
pub record IsLowest (mask position : ℕ) : Type 0 where
  pub has : Has mask position
  pub least : (other : ℕ) → Has mask other → position ≤ other

-- there are at most as many positions as the language allows, and no set has any other
pub record AreSets (sets : Sets) : Type 0 where
  pub few : length sets.preds ≤ max_positions
  pub each : length sets.follow ≡ length sets.preds
  pub first : sets.first < 2 ^ length sets.preds
  pub last : sets.last < 2 ^ length sets.preds
  pub follow : AllByRecursion (λ mask. mask < 2 ^ length sets.preds) sets.follow
