-- For the prover. What a search through two automata over the same cells has found so far.
use Rattle.std.specs.Prelude.{◌≡◌, ◌<◌, ◌≤◌, ◌⊎◌, ◌↔◌, ℕ, List, All, length}
use Rattle.std.specs.List.{Contains}
use Rattle.value_ops.specs.declared.field.Field.{Field}
use Rattle.item_schema.specs.Items.{IsItemOf}
use Rattle.rate_expr.specs.After.{IsAfter, IsStateOf}
use Rattle.rate_expr.specs.Words.{Word, IsWordOf}
use Rattle.rate_expr.specs.declared.state.State.{State}
use Rattle.rate_expr.specs.declared.state.State.TheVariants.{Initial, At}
use Rattle.symbolic_nfa.specs.States.{IsAccepted, StepsTo}
use Rattle.separating_word.specs.Pairs.{AreCellsOf}
use Rattle.separating_word.specs.declared.automata.Automata.{Automata}
use Rattle.separating_word.specs.declared.search.Level.{Level}
use Rattle.separating_word.specs.declared.search.Level.TheVariants.{Found, Next, Stopped}
use Rattle.separating_word.specs.declared.search.Reached.{Reached}

-- the states are those after the word
abbrev pub AreAfter : Automata → Word → State → State → Type 0
AreAfter automata word left right =
    IsAfter automata.left.sets word left × IsAfter automata.right.sets word right

-- a word may end in both states or in neither
abbrev pub Agree : Automata → State → State → Type 0
Agree automata left right =
    IsAccepted automata.left.sets left ↔ IsAccepted automata.right.sets right

-- the states after each word of fewer items agree
abbrev pub AgreeBelow : Automata → ℕ → Type 0
AgreeBelow automata items = (word : Word) → IsWordOf automata.left.cells.layout.columns word
    → length word < items
    → (left : State) × (right : State) × AreAfter automata word left right
    × Agree automata left right

-- these are cells of the automata, and the states after each word of fewer items agree
pub record IsShortestApart (automata : Automata) (cells : List ℕ) : Type 0 where
  pub cells_of : AreCellsOf automata cells
  pub agree : AgreeBelow automata (length cells)

-- the states are known; the initial ones always are
abbrev pub AreKnown : List (ℕ × ℕ) → State → State → Type 0
AreKnown known Initial Initial = Unit {0}
AreKnown known Initial (At right) = ⊥
AreKnown known (At left) Initial = ⊥
AreKnown known (At left) (At right) = Contains known (left, right)

-- each item leads from the states to known ones
abbrev pub LeadIntoKnown : Automata → List (ℕ × ℕ) → State → State → Type 0
LeadIntoKnown automata known left right = (item : List Field)
    → IsItemOf automata.left.cells.layout.columns item
    → (masks : ℕ × ℕ) × Contains known masks
    × StepsTo automata.left.sets left item masks.0 × StepsTo automata.right.sets right item masks.1

-- states of the automata, with a word of cells
pub record IsReachedIn (automata : Automata) (reached : Reached) : Type 0 where
  pub left_of : IsStateOf automata.left.sets reached.left
  pub right_of : IsStateOf automata.right.sets reached.right
  pub cells : AreCellsOf automata reached.word.items

-- the words have this number of cells
abbrev pub HaveItems : ℕ → List Reached → Type 0
HaveItems items level = All (λ reached. length reached.word.items ≡ items) level

-- these states are in the level
abbrev pub AreAmong : List Reached → State → State → Type 0
AreAmong level left right = (reached : Reached) × Contains level reached
    × (reached.left ≡ left) × (reached.right ≡ right)

-- the states that became known agree, and are in the next level
pub record IsGrown (automata : Automata) (old new : List (ℕ × ℕ)) (next : List Reached)
    : Type 0 where
  pub kept : (masks : ℕ × ℕ) → Contains old masks → Contains new masks
  pub more : (masks : ℕ × ℕ) → Contains new masks → Contains old masks
      ⊎ (Agree automata (At masks.0) (At masks.1) × AreAmong next (At masks.0) (At masks.1))

-- each item leads from the states to known ones, by those that were added to the known and to the
-- next level
pub record IsExpanded (automata : Automata) (from : Reached) (old : List (ℕ × ℕ))
    (before : List Reached) (new : List (ℕ × ℕ)) (next : List Reached) : Type 0 where
  pub grown : (first : List (ℕ × ℕ)) → IsGrown automata first old before
      → IsGrown automata first new next
  pub gone : LeadIntoKnown automata new from.left from.right

-- Known states agree. Each word of at most `items` items leads to known ones, and so does each item
-- from known ones that are not in the latest level.
pub record IsSearched (automata : Automata) (items : ℕ) (known : List (ℕ × ℕ))
    (level : List Reached) : Type 0 where
  pub agree : (left right : State) → AreKnown known left right → Agree automata left right
  pub words : (word : Word) → IsWordOf automata.left.cells.layout.columns word
      → length word ≤ items → (left : State) × (right : State)
      × AreAfter automata word left right × AreKnown known left right
  pub gone : (left right : State) → AreKnown known left right
      → LeadIntoKnown automata known left right ⊎ AreAmong level left right

-- the result of a search is over the cells or the states of the automata
abbrev pub LeadsOn : Automata → Level → Type 0
LeadsOn automata (Found word) = AreCellsOf automata word.items
LeadsOn automata (Next level) = All (IsReachedIn automata) level.items
LeadsOn automata Stopped = Unit {0}

-- the search has covered words of up to `items` items, or has found a word of `items` items
abbrev pub IsSearchedOn : Automata → ℕ → List (ℕ × ℕ) → Level → Type 0
IsSearchedOn automata items known (Found word) = length word.items ≡ items
IsSearchedOn automata items known (Next level) =
    IsSearched automata items known level.items × HaveItems items level.items
IsSearchedOn automata items known Stopped = Unit {0}
