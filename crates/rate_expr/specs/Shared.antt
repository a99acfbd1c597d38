-- Statement. Lists of predicates in which equal ones are kept once.
use Rattle.std.specs.Prelude.{◌≡◌, ◌<◌, ℕ, List, Some, length, map, get_or, slice_get}
use Rattle.predicates.specs.Predicates.{Predicate, any}

-- the distinct predicates, and for each predicate of the list its place among them
pub record Shared : Type 0 where
  pub distinct : List Predicate
  pub places : List ℕ

-- the list that is meant
abbrev pub listed : Shared → List Predicate
listed shared = map (λ place. get_or shared.distinct place any) shared.places

-- each place exists, no predicate is kept twice, and each one that is kept is in the list
pub record AreShared (shared : Shared) : Type 0 where
  pub within : (position place : ℕ) → slice_get shared.places position ≡ Some place
      → place < length shared.distinct
  pub once : (place other : ℕ) (pred : Predicate) → slice_get shared.distinct place ≡ Some pred
      → slice_get shared.distinct other ≡ Some pred → other ≡ place
  pub used : (place : ℕ) → place < length shared.distinct
      → (position : ℕ) × (slice_get shared.places position ≡ Some place)
