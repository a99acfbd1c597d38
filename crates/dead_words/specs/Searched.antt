-- For the prover. What a search through an automaton has found so far.
use Rattle.std.specs.Prelude.{◌≡◌, ◌<◌, ◌≤◌, ◌⊎◌, ℕ, List, All, length}
use Rattle.std.specs.List.{Contains}
use Rattle.value_ops.specs.declared.field.Field.{Field}
use Rattle.item_schema.specs.Items.{IsItemOf}
use Rattle.predicate_cells.specs.Cells.{cell_count}
use Rattle.rate_expr.specs.After.{IsAfter, IsStateOf}
use Rattle.rate_expr.specs.Words.{Word, IsWordOf}
use Rattle.rate_expr.specs.declared.state.State.{State}
use Rattle.rate_expr.specs.declared.state.State.TheVariants.{Initial, At}
use Rattle.symbolic_nfa.specs.Automata.{Automaton}
use Rattle.symbolic_nfa.specs.States.{Extends, StepsTo}
use Rattle.dead_words.specs.Outlooks.{AreIn}
use Rattle.dead_words.specs.declared.outlook.Outlook.{Outlook}
use Rattle.dead_words.specs.declared.outlook.Outlook.TheVariants.{Ends, GoesOn, Undecided}
use Rattle.dead_words.specs.declared.search.Level.{Level}
use Rattle.dead_words.specs.declared.search.Level.TheVariants.{Found, Next, Stopped}
use Rattle.dead_words.specs.declared.search.Reached.{Reached}

-- these are cells of the automaton
abbrev pub AreCellsOf : Automaton → List ℕ → Type 0
AreCellsOf nfa places = All (λ place. place < cell_count nfa.cells) places

-- items of the cells lead to the state
abbrev pub LeadTo : Automaton → List ℕ → State → Type 0
LeadTo nfa places state =
    (word : Word) → AreIn nfa.cells places word → IsAfter nfa.sets word state

-- a state of the automaton, with cells that lead to it
pub record IsReachedIn (nfa : Automaton) (reached : Reached) : Type 0 where
  pub state_of : IsStateOf nfa.sets reached.state
  pub places_of : AreCellsOf nfa reached.word.items
  pub leads : LeadTo nfa reached.word.items reached.state

-- the cells lead to a state from which no word can be extended
pub record IsEndIn (nfa : Automaton) (places : List ℕ) : Type 0 where
  pub places_of : AreCellsOf nfa places
  pub state : State
  pub leads : LeadTo nfa places state
  pub dead : Extends nfa state → ⊥

-- the state after the word extends
abbrev pub ExtendsAfter : Automaton → Word → Type 0
ExtendsAfter nfa word = (state : State) × IsAfter nfa.sets word state × Extends nfa state

-- so it is after each word with fewer items
abbrev pub ExtendBelow : Automaton → ℕ → Type 0
ExtendBelow nfa items = (word : Word) → IsWordOf nfa.cells.layout.columns word
    → length word < items → ExtendsAfter nfa word

-- what the result says of the automaton
abbrev pub IsFoundIn : Automaton → Outlook → Type 0
IsFoundIn nfa (Ends word) = IsEndIn nfa word.items × ExtendBelow nfa (length word.items)
IsFoundIn nfa GoesOn = (word : Word) → IsWordOf nfa.cells.layout.columns word
    → ExtendsAfter nfa word
IsFoundIn nfa Undecided = Unit {0}

-- the state is known; the initial one always is
abbrev pub IsKnown : List ℕ → State → Type 0
IsKnown known Initial = Unit {0}
IsKnown known (At mask) = Contains known mask

-- each item leads from the state to a known one
abbrev pub LeadsIntoKnown : Automaton → List ℕ → State → Type 0
LeadsIntoKnown nfa known state = (item : List Field) → IsItemOf nfa.cells.layout.columns item
    → (mask : ℕ) × Contains known mask × StepsTo nfa.sets state item mask

-- the words have this number of cells
abbrev pub HaveItems : ℕ → List Reached → Type 0
HaveItems items level = All (λ reached. length reached.word.items ≡ items) level

-- the state is in the level
abbrev pub IsAmong : List Reached → State → Type 0
IsAmong level state =
    (reached : Reached) × Contains level reached × (reached.state ≡ state)

-- the states that became known extend, and are in the next level
pub record IsGrown (nfa : Automaton) (old new : List ℕ) (next : List Reached) : Type 0 where
  pub kept : (mask : ℕ) → Contains old mask → Contains new mask
  pub more : (mask : ℕ) → Contains new mask → Contains old mask
      ⊎ (Extends nfa (At mask) × IsAmong next (At mask))

-- each item leads from the state to a known one, by those that were added to the known and to the
-- next level
pub record IsExpanded (nfa : Automaton) (from : Reached) (old : List ℕ) (before : List Reached)
    (new : List ℕ) (next : List Reached) : Type 0 where
  pub grown : (first : List ℕ) → IsGrown nfa first old before → IsGrown nfa first new next
  pub gone : LeadsIntoKnown nfa new from.state

-- Known states extend. Each word of at most `items` items leads to a known one, and so does each
-- item from a known one that is not in the latest level.
pub record IsSearched (nfa : Automaton) (items : ℕ) (known : List ℕ) (level : List Reached)
    : Type 0 where
  pub extend : (state : State) → IsKnown known state → Extends nfa state
  pub words : (word : Word) → IsWordOf nfa.cells.layout.columns word → length word ≤ items
      → (state : State) × IsAfter nfa.sets word state × IsKnown known state
  pub gone : (state : State) → IsKnown known state
      → LeadsIntoKnown nfa known state ⊎ IsAmong level state

-- the result of a search is over the cells or the states of the automaton
abbrev pub LeadsOn : Automaton → Level → Type 0
LeadsOn nfa (Found word) = IsEndIn nfa word.items
LeadsOn nfa (Next level) = All (IsReachedIn nfa) level.items
LeadsOn nfa Stopped = Unit {0}

-- the search has covered words of up to `items` items, or has found a word of `items` items
abbrev pub IsSearchedOn : Automaton → ℕ → List ℕ → Level → Type 0
IsSearchedOn nfa items known (Found word) = length word.items ≡ items
IsSearchedOn nfa items known (Next level) =
    IsSearched nfa items known level.items × HaveItems items level.items
IsSearchedOn nfa items known Stopped = Unit {0}
