-- For the prover. Which positions the items of cells meet.
use Rattle.std.specs.Prelude.{◌≡◌, ◌<◌, ℕ, List, All}
use Rattle.std.specs.List.{Contains}
use Rattle.predicate_cells.specs.Cells.{cell_count}
use Rattle.symbolic_nfa.specs.Automata.{Automaton}
use Rattle.symbolic_nfa.specs.States.{IsMetBy}
use Rattle.dead_words.specs.declared.letters.Letter.{Letter}

-- the letter is a cell of the automaton, with the positions that its items meet
pub record IsLetter (nfa : Automaton) (letter : Letter) : Type 0 where
  pub cell : letter.cell < cell_count nfa.cells
  pub met : IsMetBy nfa letter.cell letter.met

-- the items of each cell meet the positions of some letter
pub record AreLetters (nfa : Automaton) (letters : List Letter) : Type 0 where
  pub each : All (IsLetter nfa) letters
  pub whole : (cell : ℕ) → cell < cell_count nfa.cells
      → (letter : Letter) × Contains letters letter × IsMetBy nfa cell letter.met

-- the items of each cell below this one meet the positions of some letter, and these are known
pub record AreGathered (nfa : Automaton) (cell : ℕ) (known : List ℕ) (letters : List Letter)
    : Type 0 where
  pub each : All (IsLetter nfa) letters
  pub stands : (met : ℕ) → Contains known met
      → (letter : Letter) × Contains letters letter × (letter.met ≡ met)
  pub below : (other : ℕ) → other < cell
      → (met : ℕ) × Contains known met × IsMetBy nfa other met
