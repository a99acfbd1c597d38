-- For the prover. What is kept of a stream's lines.
use Rattle.std.specs.Prelude.{◌≡◌, ◌⊎◌, ◌-◌, ◌^◌, ◌==◌, ◌&&◌, Bool, List, [], ◌∷◌, ◌++◌, length}
use Rattle.io_edge.specs.Lines.{Shown}
use Rattle.symbolic_nfa.specs.Automata.{Automaton}
use Rattle.dead_lines.specs.Courses.{CanStep, IsCourse}
use Rattle.dead_lines.specs.declared.watch.Watch.{Watch}

-- these are the lines so far, of which there are as many as are counted, up to the greatest count
pub record Watches (nfa : Automaton) (shown : List Shown) (watch : Watch) : Type 0 where
  pub nfa_is : watch.nfa.now ≡ nfa
  pub count : (watch.lines ≡ length shown) ⊎ (watch.lines ≡ 2 ^ 64 - 1)
  pub course : IsCourse nfa shown watch.course

-- whichever lines the first has taken, the other has taken these and the others
abbrev pub WatchesOn : Watch → List Shown → Watch → Type 0
WatchesOn first others now = (nfa : Automaton) (before : List Shown)
    → Watches nfa before first → Watches nfa (before ++ others) now

-- one more line is taken
abbrev pub TakesLine : Shown → Watch → Watch → Type 0
TakesLine line old new = WatchesOn old (line ∷ []) new

-- the next line is the header
abbrev pub awaits_header : Watch → Bool
awaits_header watch = (watch.lines == 0) && watch.nfa.now.cells.layout.has_header

-- it can take a line
abbrev pub CanTake : Watch → Type 0
CanTake watch = CanStep watch.nfa.now watch.course
