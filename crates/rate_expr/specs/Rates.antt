-- Statement. Rates as expressions, regardless of how they lie in memory.
use Rattle.std.specs.Prelude.{ℕ, ◌+◌, List, [], ◌∷◌, ◌++◌}
use Rattle.predicates.specs.Predicates.{Predicate}

-- a regular expression over predicates on items
pub data Regex : Type 0 where
  empty : Regex
  one : Predicate → Regex
  sequence : Regex → Regex → Regex
  choice : Regex → Regex → Regex
  star : Regex → Regex

-- the predicates of the positions, from left to right
abbrev pub preds_of : Regex → List Predicate
preds_of empty = []
preds_of (one pred) = pred ∷ []
preds_of (sequence left right) = preds_of left ++ preds_of right
preds_of (choice left right) = preds_of left ++ preds_of right
preds_of (star inner) = preds_of inner

-- how many positions there are
abbrev pub size_of : Regex → ℕ
size_of empty = 0
size_of (one pred) = 1
size_of (sequence left right) = size_of left + size_of right
size_of (choice left right) = size_of left + size_of right
size_of (star inner) = size_of inner
