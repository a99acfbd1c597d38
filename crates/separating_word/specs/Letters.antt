-- For the prover. Which positions the items of cells meet.
use Rattle.std.specs.Prelude.{◌≡◌, ◌<◌, ℕ, List, All, bit_and}
use Rattle.std.specs.List.{Contains}
use Rattle.predicate_cells.specs.Cells.{cell_count}
use Rattle.symbolic_nfa.specs.States.{IsMetBy}
use Rattle.separating_word.specs.declared.automata.Automata.{Automata}
use Rattle.separating_word.specs.declared.letters.Letter.{Letter}

-- the masks have the positions of both automata that the items of the cell meet
abbrev pub AreMetBy : Automata → ℕ → ℕ × ℕ → Type 0
AreMetBy automata cell masks =
    IsMetBy automata.left cell masks.0 × IsMetBy automata.right cell masks.1

-- the letters are of cells that the automata read
abbrev pub AreOfCells : Automata → List Letter → Type 0
AreOfCells automata letters = All (λ letter. letter.cell < cell_count automata.left.cells) letters

-- each cell has a letter with its masks
pub record AreLetters (automata : Automata) (letters : List Letter) : Type 0 where
  pub cells : AreOfCells automata letters
  pub whole : (cell : ℕ) → cell < cell_count automata.left.cells → (letter : Letter)
      × Contains letters letter × AreMetBy automata cell (letter.left, letter.right)

-- each cell below this one has a letter with its masks, and these are known
pub record AreGathered (automata : Automata) (cell : ℕ) (known : List (ℕ × ℕ))
    (letters : List Letter) : Type 0 where
  pub cells : AreOfCells automata letters
  pub stands : (masks : ℕ × ℕ) → Contains known masks → (letter : Letter)
      × Contains letters letter × (letter.left ≡ masks.0) × (letter.right ≡ masks.1)
  pub below : (other : ℕ) → other < cell
      → (masks : ℕ × ℕ) × Contains known masks × AreMetBy automata other masks

-- the positions that the items of the letter's cell meet, out of those that may come next
abbrev pub target : ℕ × ℕ → Letter → ℕ × ℕ
target ways letter = (bit_and ways.0 letter.left, bit_and ways.1 letter.right)
