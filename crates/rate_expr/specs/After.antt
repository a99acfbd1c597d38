-- Statement. The states of an automaton, and which of them comes after a word.
use Rattle.std.specs.Prelude.{◌<◌, ◌^◌, ℕ, [], ◌∷◌, length}
use Rattle.rate_expr.specs.Paths.{Leads}
use Rattle.rate_expr.specs.Sets.{Sets, Has}
use Rattle.rate_expr.specs.Words.{Word}
use Rattle.rate_expr.specs.declared.state.State.{State}
use Rattle.rate_expr.specs.declared.state.State.TheVariants.{Initial, At}

-- the positions of the state exist
abbrev pub IsStateOf : Sets → State → Type 0
IsStateOf sets Initial = Unit {0}
IsStateOf sets (At mask) = mask < 2 ^ length sets.preds

-- the state after a word: after the empty word the initial state, and after any other the set of
-- the positions at which some path that the word spells ends
abbrev pub IsAfter : Sets → Word → State → Type 0
IsAfter sets [] Initial = Unit {0}
IsAfter sets [] (At mask) = ⊥
IsAfter sets (item ∷ word) Initial = ⊥
IsAfter sets (item ∷ word) (At mask) =
    (to : ℕ)
    → (Has mask to → Leads sets (item ∷ word) to) × (Leads sets (item ∷ word) to → Has mask to)
