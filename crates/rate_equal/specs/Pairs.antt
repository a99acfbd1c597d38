-- For the prover. The pairs of states to which words lead.
use Rattle.std.specs.Prelude.{◌≡◌, ◌≤◌, ℕ, List, ◌++◌, length}
use Rattle.std.specs.List.{Contains}
use Rattle.value_ops.specs.declared.field.Field.{Field}
use Rattle.item_schema.specs.Items.{IsItemOf}
use Rattle.rate_expr.specs.After.{IsAfter}
use Rattle.rate_expr.specs.Words.{Word, IsWordOf}
use Rattle.rate_expr.specs.declared.state.State.{State}
use Rattle.rate_expr.specs.declared.state.State.TheVariants.{Initial, At}
use Rattle.symbolic_nfa.specs.Automata.{Automaton}
use Rattle.symbolic_nfa.specs.States.{AreWaysOn, Steps}
use Rattle.rate_equal.specs.Reach.{max_reach}
use Rattle.rate_equal.specs.declared.pair.Pair.{Pair}

-- the mask of the positions of a state; the initial one has none
abbrev pub mask_of : State → ℕ
mask_of Initial = 0
mask_of (At mask) = mask

-- the states of the pair are those after the word
abbrev pub AreAfter : Automaton → Automaton → Word → Pair → Type 0
AreAfter first second word pair =
    IsAfter first.sets word pair.first × IsAfter second.sets word pair.second

-- the masks have exactly the positions that may be next after the states of the pair
abbrev pub AreWaysOnFrom : Automaton → Automaton → Pair → ℕ × ℕ → Type 0
AreWaysOnFrom first second pair ways =
    AreWaysOn first.sets pair.first ways.0 × AreWaysOn second.sets pair.second ways.1

-- some word of items of the stream leads to the pair
abbrev pub IsReached : Automaton → Automaton → Pair → Type 0
IsReached first second pair = (word : Word) × IsWordOf first.cells.layout.columns word
    × AreAfter first second word pair

-- words lead to each of these pairs, and they are not more than the limit
pub record AreReached (first second : Automaton) (pairs : List Pair) : Type 0 where
  pub each : (pair : Pair) → Contains pairs pair → IsReached first second pair
  pub few : length pairs ≤ max_reach

-- the same, and each word leads to one of these pairs
pub record AreAll (first second : Automaton) (pairs : List Pair) : Type 0 where
  pub reached : AreReached first second pairs
  pub whole : (word : Word) → IsWordOf first.cells.layout.columns word
      → (pair : Pair) × Contains pairs pair × AreAfter first second word pair

-- each item of the stream leads from the pair to one of these pairs
abbrev pub LeadsInto : Automaton → Automaton → List Pair → Pair → Type 0
LeadsInto first second pairs from = (item : List Field) → IsItemOf first.cells.layout.columns item
    → (next : Pair) × Contains pairs next × Steps first.sets from.first item next.first
    × Steps second.sets from.second item next.second

-- some pairs were appended to the old ones
abbrev pub IsGrown : List Pair → List Pair → Type 0
IsGrown old new = (more : List Pair) × (new ≡ old ++ more)

-- some pairs were appended, and now each item leads from the pair `from` to one of all pairs
pub record IsExplored (first second : Automaton) (from : Pair) (old new : List Pair) : Type 0 where
  pub reached : AreReached first second new
  pub grown : IsGrown old new
  pub done : LeadsInto first second new from
