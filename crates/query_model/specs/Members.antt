-- Statement. Lists of predicates with the same members, and lists that have each member once.
use Rattle.std.specs.Prelude.{◌↔◌, ◌++◌, ⊤, List, [], ◌∷◌}
use Rattle.std.specs.List.{Contains}
use Rattle.predicates.specs.Predicates.{Predicate}

-- two lists have the same members
abbrev pub HaveSameMembers : List Predicate → List Predicate → Type 0
HaveSameMembers one other = (pred : Predicate) → Contains one pred ↔ Contains other pred

-- no member is equal to one after it
unfoldable pub StandOnce : List Predicate → Type 0
StandOnce [] = ⊤
StandOnce (pred ∷ preds) = (Contains preds pred → ⊥) × StandOnce preds

-- what a list has become where those of another that it did not have were added to it
pub record Gathers (old added new : List Predicate) : Type 0 where
  pub members : HaveSameMembers new (old ++ added)
  pub once : StandOnce old → StandOnce new
