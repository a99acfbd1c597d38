-- Statement. Where one more item leads from a state, and which states are at an end or can come to
-- one.
use Rattle.std.specs.Prelude.{◌≡◌, ◌<◌, ◌^◌, ◌↔◌, ℕ, true, List, [], ◌∷◌, length}
use Rattle.value_ops.specs.declared.field.Field.{Field}
use Rattle.rate_expr.specs.Paths.{Follows, Meets, LeadsOn}
use Rattle.rate_expr.specs.Sets.{Sets, Has}
use Rattle.rate_expr.specs.Words.{Word, IsWordOf}
use Rattle.symbolic_nfa.specs.Automata.{Automaton, IsMet}
use Rattle.rate_expr.specs.declared.state.State.{State}
use Rattle.rate_expr.specs.declared.state.State.TheVariants.{Initial, At}

-- the mask has exactly the positions that the items of the cell meet
abbrev pub IsMetBy : Automaton → ℕ → ℕ → Type 0
IsMetBy nfa cell mask = IsMet nfa.sets nfa.cells cell mask

-- the position may be next after the state
abbrev pub Continues : Sets → State → ℕ → Type 0
Continues sets Initial next = Has sets.first next
Continues sets (At mask) next = (from : ℕ) × Has mask from × Follows sets from next

-- the mask has exactly the positions that may be next after the state
pub record AreWaysOn (sets : Sets) (state : State) (ways : ℕ) : Type 0 where
  pub within : ways < 2 ^ length sets.preds
  pub exact : (next : ℕ) → Has ways next ↔ Continues sets state next

-- one more item leads from the state to the mask of the positions that may be next and that the
-- item meets
pub record StepsTo (sets : Sets) (state : State) (item : List Field) (mask : ℕ) : Type 0 where
  pub sound : (next : ℕ) → Has mask next → Continues sets state next × Meets sets next item
  pub whole : (next : ℕ) → Continues sets state next → Meets sets next item → Has mask next

-- the same for a state; no item leads to the initial one
abbrev pub Steps : Sets → State → List Field → State → Type 0
Steps sets state item Initial = ⊥
Steps sets state item (At mask) = StepsTo sets state item mask

-- words that lead to the state are in the rate
abbrev pub IsAccepted : Sets → State → Type 0
IsAccepted sets Initial = sets.nullable ≡ true
IsAccepted sets (At mask) = (end : ℕ) × Has mask end × Has sets.last end

-- the word spells a path from the state to a position where words may end
abbrev pub LeadsToEnd : Sets → State → Word → Type 0
LeadsToEnd sets state [] = IsAccepted sets state
LeadsToEnd sets state (item ∷ word) = (next : ℕ) × (end : ℕ) × Continues sets state next
    × Meets sets next item × LeadsOn sets next word end × Has sets.last end

-- some word of at least one item of the stream leads from the state to an end
pub record Extends (nfa : Automaton) (state : State) : Type 0 where
  pub item : List Field
  pub word : Word
  pub items : IsWordOf nfa.cells.layout.columns (item ∷ word)
  pub ends : LeadsToEnd nfa.sets state (item ∷ word)
