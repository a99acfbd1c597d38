-- For the prover. What lines leave possible, as the automaton of a rate sees it.
use Rattle.std.specs.Prelude.{◌≡◌, ℕ, List, Option, Some, None}
use Rattle.io_edge.specs.Lines.{Shown}
use Rattle.value_ops.specs.declared.field.Field.{Field}
use Rattle.rate_expr.specs.After.{IsAfter, IsStateOf}
use Rattle.rate_expr.specs.Words.{Word, IsWordOf}
use Rattle.rate_expr.specs.declared.state.State.{State}
use Rattle.stream_run.specs.Endings.{Begins}
use Rattle.stream_run.specs.Output.{items_of}
use Rattle.symbolic_nfa.specs.Automata.{Automaton}
use Rattle.symbolic_nfa.specs.States.{Extends, Steps}
use Rattle.dead_words.specs.Searched.{ExtendsAfter}
use Rattle.dead_lines.specs.DeadLines.{IsFirst}
use Rattle.dead_lines.specs.declared.course.Course.{Course}
use Rattle.dead_lines.specs.declared.course.Course.TheVariants.{Alive, Dead}
use Rattle.dead_lines.specs.declared.course.DeadLine.{DeadLine}

-- the items of the lines
abbrev pub items_in : Automaton → List Shown → Word
items_in nfa shown = items_of nfa.cells.layout shown

-- the state after a word does not extend
pub record EndsAfter (nfa : Automaton) (word : Word) : Type 0 where
  pub items : IsWordOf nfa.cells.layout.columns word
  pub state : State
  pub after : IsAfter nfa.sets word state
  pub dead : Extends nfa state → ⊥

-- this is the state after the items of the lines, and it extends, as it did after fewer lines
pub record IsAlive (nfa : Automaton) (shown : List Shown) (state : State) : Type 0 where
  pub items : IsWordOf nfa.cells.layout.columns (items_in nfa shown)
  pub after : IsAfter nfa.sets (items_in nfa shown) state
  pub extends : (some : List Shown) → Begins some shown → ExtendsAfter nfa (items_in nfa some)

-- what the lines leave possible
abbrev pub IsCourse : Automaton → List Shown → Course → Type 0
IsCourse nfa shown (Alive state) = IsAlive nfa shown state
IsCourse nfa shown (Dead dead) =
    IsFirst (λ some. ExtendsAfter nfa (items_in nfa some))
    (λ some. EndsAfter nfa (items_in nfa some)) shown dead.number dead.line

-- what an item from a state leaves possible, where it is that of a line with this number
abbrev pub IsCourseFrom : Automaton → State → List Field → ℕ → List ℕ → Course → Type 0
IsCourseFrom nfa state item number line (Alive next) =
    Steps nfa.sets state item next × Extends nfa next
IsCourseFrom nfa state item number line (Dead dead) =
    (dead.number ≡ number) × (dead.line ≡ line) × (next : State)
    × Steps nfa.sets state item next × (Extends nfa next → ⊥)

-- its state is one of the automaton
abbrev pub CanStep : Automaton → Course → Type 0
CanStep nfa (Alive state) = IsStateOf nfa.sets state
CanStep nfa (Dead dead) = Unit {0}

-- the line after which the rate has ended, if it has
abbrev pub dead_line_of : Course → Option DeadLine
dead_line_of (Alive state) = None
dead_line_of (Dead dead) = Some dead
