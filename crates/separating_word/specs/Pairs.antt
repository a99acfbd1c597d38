-- For the prover. The automata of the rates of two queries.
use Rattle.std.specs.Prelude.{◌≡◌, ◌<◌, ℕ, List, All}
use Rattle.predicate_cells.specs.Cells.{Partition, cell_count}
use Rattle.query_model.specs.Checked.{CheckedQuery}
use Rattle.query_model.specs.Queries.{plain_of}
use Rattle.query_model.specs.Rates.{rate_of}
use Rattle.rate_expr.specs.Paths.{AreOf}
use Rattle.rate_expr.specs.Sets.{Sets}
use Rattle.symbolic_nfa.specs.Automata.{Automaton}
use Rattle.separating_word.specs.declared.automata.Automata.{Automata}

-- both are over the same cells
abbrev pub ShareCells : Automata → Type 0
ShareCells automata = automata.left.cells ≡ automata.right.cells

-- these are cells of the automata
abbrev pub AreCellsOf : Automata → List ℕ → Type 0
AreCellsOf automata cells = All (λ cell. cell < cell_count automata.left.cells) cells

-- the automaton of these sets over the cells
abbrev pub over : Partition → Sets → Automaton
over cells sets = record { sets = sets; cells = cells }

-- they are the automata of these sets over the cells
pub record AreOver (cells : Partition) (first second : Sets) (automata : Automata) : Type 0 where
  pub left_is : automata.left ≡ over cells first
  pub right_is : automata.right ≡ over cells second

-- they are over items of the left query's stream, and are automata of the queries' rates
pub record AreOfRates (left right : CheckedQuery) (automata : Automata) : Type 0 where
  pub shared : ShareCells automata
  pub layout : automata.left.cells.layout ≡ left.layout
  pub left_of : AreOf automata.left.sets (rate_of (plain_of left.main.shape))
  pub right_of : AreOf automata.right.sets (rate_of (plain_of right.main.shape))
