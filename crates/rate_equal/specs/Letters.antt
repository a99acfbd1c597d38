-- For the prover. The letters: what the items of cells meet.
use Rattle.std.specs.Prelude.{◌≡◌, ◌<◌, ℕ, List, All}
use Rattle.std.specs.List.{Contains}
use Rattle.predicate_cells.specs.Cells.{cell_count}
use Rattle.symbolic_nfa.specs.Automata.{Automaton}
use Rattle.symbolic_nfa.specs.States.{IsMetBy}
use Rattle.rate_equal.specs.declared.letters.Letter.{Letter}

-- the letter has the positions of both automata that the items of the cell meet
abbrev pub IsLetterOf : Automaton → Automaton → ℕ → Letter → Type 0
IsLetterOf first second cell letter =
    IsMetBy first cell letter.first × IsMetBy second cell letter.second

-- it is the letter of some cell
abbrev pub IsLetter : Automaton → Automaton → Letter → Type 0
IsLetter first second letter = (cell : ℕ) × (cell < cell_count first.cells)
    × IsLetterOf first second cell letter

-- all are letters of cells, and each cell has one of them
pub record AreLetters (first second : Automaton) (letters : List Letter) : Type 0 where
  pub same : first.cells ≡ second.cells
  pub sound : All (IsLetter first second) letters
  pub whole : (cell : ℕ) → cell < cell_count first.cells
      → (letter : Letter) × Contains letters letter × IsLetterOf first second cell letter

-- these are the positions of both automata that the items of the cell meet
abbrev pub AreMetBy : Automaton → Automaton → ℕ → ℕ × ℕ → Type 0
AreMetBy first second cell met = IsMetBy first cell met.0 × IsMetBy second cell met.1

-- the letter has these positions
abbrev pub HasThese : Letter → ℕ × ℕ → Type 0
HasThese letter met = (letter.first ≡ met.0) × (letter.second ≡ met.1)

-- each cell before this one has a letter, and its positions are known
pub record IsGathered (first second : Automaton) (cell : ℕ) (known : List (ℕ × ℕ))
    (letters : List Letter) : Type 0 where
  pub sound : All (IsLetter first second) letters
  pub stands : (met : ℕ × ℕ) → Contains known met
      → (letter : Letter) × Contains letters letter × HasThese letter met
  pub below : (other : ℕ) → other < cell
      → (met : ℕ × ℕ) × Contains known met × AreMetBy first second other met
