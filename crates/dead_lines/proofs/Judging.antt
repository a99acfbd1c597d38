-- From what an automaton sees to what it means for the query.
use Rattle.std.proofs.Common.{◌≡◌, ℕ, List, [], subst}
use Rattle.io_edge.specs.Lines.{Shown}
use Rattle.item_schema.specs.Layout.{Layout}
use Rattle.query_model.specs.Monitors.{Monitor}
use Rattle.query_model.specs.Rates.{rate_of}
use Rattle.query_model.specs.Rules.{free, IsClear}
use Rattle.query_model.proofs.InRates.{den_in}
use Rattle.rate_expr.specs.Paths.{AreOf}
use Rattle.rate_expr.specs.Rates.{Regex}
use Rattle.rate_expr.specs.Readings.{HasExtension}
use Rattle.rate_expr.specs.Words.{Word, IsWordOf}
use Rattle.stream_run.specs.Output.{items_of}
use Rattle.stream_run.proofs.LineItems.{word_joined}
use Rattle.symbolic_nfa.specs.Automata.{Automaton}
use Rattle.symbolic_nfa.proofs.WordsAfter.{extends-in}
use Rattle.dead_words.specs.Searched.{ExtendsAfter}
use Rattle.dead_example.specs.Endings.{LeadsToValue}
use Rattle.dead_lines.specs.Courses.{EndsAfter, IsCourse, dead_line_of, items_in}
use Rattle.dead_lines.specs.DeadLines.{CanGoOn, IsDead, IsDeadLine, IsFirst, at_line, at_start}
use Rattle.dead_lines.specs.declared.course.Course.{Course}
use Rattle.dead_lines.specs.declared.course.Course.TheVariants.{Alive, Dead}

-- the first line by some facts is the first by others that follow from them
first_so : (GoesOn IsEnd GoesOn' IsEnd' : List Shown → Type 0)
    → ((some : List Shown) → GoesOn some → GoesOn' some)
    → ((some : List Shown) → IsEnd some → IsEnd' some) → (shown : List Shown) (number : ℕ)
    (line : List ℕ) → IsFirst GoesOn IsEnd shown number line
    → IsFirst GoesOn' IsEnd' shown number line
first_so GoesOn IsEnd GoesOn' IsEnd' goes ends shown number line (at_start is_zero none end) =
    at_start is_zero none (ends [] end)
first_so GoesOn IsEnd GoesOn' IsEnd' goes ends shown number line
    (at_line before others is number_is end before_goes) =
    at_line before others is number_is (ends _ end)
    (λ some begins. goes some (before_goes some begins))

module _ (monitor : Monitor) (nfa : Automaton)
    (clear : IsClear free monitor.layout.columns monitor.query)
    (layout : nfa.cells.layout ≡ monitor.layout) (are : AreOf nfa.sets (rate_of monitor.query))
  where
    abbrev rate : Regex
    rate = rate_of monitor.query

    -- from the items of lines further ones lead on
    goes_on : (some : List Shown) → ExtendsAfter nfa (items_in nfa some) → CanGoOn monitor some
    goes_on some (state, after, extends) =
        subst (λ (l : Layout). HasExtension l.columns rate (items_of l some)) layout
        ((extends-in nfa rate (items_in nfa some) state are after).0 extends)

    -- where no word of the rate comes, no value does
    no_value : (word : Word) → IsWordOf monitor.layout.columns word
        → (HasExtension monitor.layout.columns rate word → ⊥)
        → LeadsToValue monitor word → ⊥
    no_value word is none leads = none (
      leads.item,
      leads.more,
      leads.items,
      den_in free monitor.layout.columns monitor.query _ leads.value clear
          (word_joined monitor.layout.columns word _ is leads.items) leads.den,
    )

    is_dead : (some : List Shown) → EndsAfter nfa (items_in nfa some) → IsDead monitor some
    is_dead some ends =
        no_value (items_of monitor.layout some)
        (subst (λ (l : Layout). IsWordOf l.columns (items_of l some)) layout ends.items)
        (subst (λ (l : Layout). HasExtension l.columns rate (items_of l some) → ⊥)
        layout (λ has. ends.dead
        ((extends-in nfa rate (items_in nfa some) ends.state are ends.after).1 has)))

    -- what the lines leave possible gives the line
    pub dead_line_is : (shown : List Shown) (course : Course) → IsCourse nfa shown course
        → IsDeadLine monitor shown (dead_line_of course)
    dead_line_is shown (Alive state) alive =
        λ some begins. goes_on some (alive.extends some begins)
    dead_line_is shown (Dead dead) first =
        first_so _ _ (CanGoOn monitor) (IsDead monitor) goes_on is_dead shown dead.number dead.line
        first
