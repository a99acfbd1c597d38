-- Statement. The first line of a stream after which no further items lead to a value of a query.
use Rattle.std.specs.Prelude.{◌≡◌, ◌+◌, ℕ, List, [], ◌∷◌, ◌++◌, length, Option, Some, None}
use Rattle.io_edge.specs.Lines.{Shown, text}
use Rattle.query_model.specs.Monitors.{Monitor}
use Rattle.query_model.specs.Rates.{rate_of}
use Rattle.rate_expr.specs.Readings.{HasExtension}
use Rattle.stream_run.specs.Endings.{Begins}
use Rattle.stream_run.specs.Output.{items_of}
use Rattle.dead_example.specs.Endings.{LeadsToValue}
use Rattle.dead_lines.specs.declared.course.DeadLine.{DeadLine}

-- `IsDead` holds of some first lines, and `GoesOn` of fewer. The last of them is this line, with
-- its number. If `IsDead` holds of no lines, the number is 0 and the line is empty.
pub data IsFirst (GoesOn IsDead : List Shown → Type 0) (shown : List Shown) (number : ℕ)
    (line : List ℕ) : Type 0 where
  at_start : number ≡ 0 → line ≡ [] → IsDead [] → IsFirst GoesOn IsDead shown number line
  at_line : (before others : List Shown) → shown ≡ before ++ text line ∷ others
      → number ≡ length before + 1 → IsDead (before ++ text line ∷ [])
      → ((some : List Shown) → Begins some before → GoesOn some)
      → IsFirst GoesOn IsDead shown number line

-- further items lead from those of the lines to a word of the query's rate
abbrev pub CanGoOn : Monitor → List Shown → Type 0
CanGoOn monitor shown =
    HasExtension monitor.layout.columns (rate_of monitor.query) (items_of monitor.layout shown)

-- no further items lead from those of the lines to a value of the query
abbrev pub IsDead : Monitor → List Shown → Type 0
IsDead monitor shown = LeadsToValue monitor (items_of monitor.layout shown) → ⊥

-- this is the first of the lines after which no further items lead to a value; there is none if
-- further items lead to a word of the rate after each of the lines, and before the first
abbrev pub IsDeadLine : Monitor → List Shown → Option DeadLine → Type 0
IsDeadLine monitor shown None = (some : List Shown) → Begins some shown → CanGoOn monitor some
IsDeadLine monitor shown (Some dead) =
    IsFirst (CanGoOn monitor) (IsDead monitor) shown dead.number dead.line
