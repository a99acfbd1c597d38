-- Statement. The paths of positions that words spell.
use Rattle.std.specs.Prelude.{◌≡◌, ℕ, true, List, [], ◌∷◌, Some, slice_get}
use Rattle.value_ops.specs.declared.field.Field.{Field}
use Rattle.predicates.specs.Predicates.{Predicate}
use Rattle.predicates.specs.Truth.{holds}
use Rattle.rate_expr.specs.Language.{In}
use Rattle.rate_expr.specs.Rates.{Regex}
use Rattle.rate_expr.specs.Sets.{Sets, Has}
use Rattle.rate_expr.specs.Words.{Word}

-- the item meets the predicate of the position
abbrev pub Meets : Sets → ℕ → List Field → Type 0
Meets sets position item =
    (pred : Predicate) × (slice_get sets.preds position ≡ Some pred) × (holds pred item ≡ true)

-- the position may follow another
abbrev pub Follows : Sets → ℕ → ℕ → Type 0
Follows sets before position =
    (mask : ℕ) × (slice_get sets.follow before ≡ Some mask) × Has mask position

-- the word spells a path that leads on from one position to another
abbrev pub LeadsOn : Sets → ℕ → Word → ℕ → Type 0
LeadsOn sets from [] to = from ≡ to
LeadsOn sets from (item ∷ word) to =
    (next : ℕ) × Follows sets from next × Meets sets next item × LeadsOn sets next word to

-- the word spells a path from the beginning to the position
abbrev pub Leads : Sets → Word → ℕ → Type 0
Leads sets [] to = ⊥
Leads sets (item ∷ word) to =
    (begin : ℕ) × Has sets.first begin × Meets sets begin item × LeadsOn sets begin word to

-- the word spells a path from the beginning to an end
abbrev pub Spells : Sets → Word → Type 0
Spells sets [] = sets.nullable ≡ true
Spells sets (item ∷ word) = (end : ℕ) × Leads sets (item ∷ word) end × Has sets.last end

-- the paths over the sets spell exactly the words of the rate
abbrev pub AreOf : Sets → Regex → Type 0
AreOf sets rate =
    (word : Word) → (In rate word → Spells sets word) × (Spells sets word → In rate word)
