-- Statement. To how many states, or pairs of states, the words of a stream lead.
use Rattle.std.specs.Prelude.{◌≡◌, ℕ, List, length, AllPairs}
use Rattle.std.specs.List.{AllByRecursion}
use Rattle.item_schema.specs.declared.column.Column.{Column}
use Rattle.rate_expr.specs.After.{IsAfter}
use Rattle.rate_expr.specs.Sets.{Sets}
use Rattle.rate_expr.specs.Words.{Word, IsWordOf}
use Rattle.rate_expr.specs.declared.state.State.{State}

-- the most that are searched
abbrev pub max_reach : ℕ
max_reach = 4096

-- the words lead to different states
abbrev pub LeadApart : Sets → Word → Word → Type 0
LeadApart sets u v = (s s' : State) → IsAfter sets u s → IsAfter sets v s' → s ≡ s' → ⊥

-- the words lead to different pairs of a state of the one automaton and a state of the other
abbrev pub LeadToApart : Sets → Sets → Word → Word → Type 0
LeadToApart first second u v = (s s' t t' : State) → IsAfter first u s → IsAfter first v s'
    → IsAfter second u t → IsAfter second v t' → s ≡ s' → t ≡ t' → ⊥

-- there are `count` words of items of these columns, of which each two differ in a given way
pub record Differ (columns : List Column) (different : Word → Word → Type 0)
    (count : ℕ) : Type 0 where
  pub words : List Word
  pub items : AllByRecursion (IsWordOf columns) words
  pub each_two : AllPairs different words
  pub word_count : length words ≡ count

-- words lead to at least `count` states
abbrev pub ReachStates : List Column → Sets → ℕ → Type 0
ReachStates columns sets count = Differ columns (LeadApart sets) count

-- words lead to at least `count` pairs of states
abbrev pub ReachPairs : List Column → Sets → Sets → ℕ → Type 0
ReachPairs columns first second count = Differ columns (LeadToApart first second) count
