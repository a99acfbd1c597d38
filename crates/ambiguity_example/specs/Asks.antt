-- Statement. What a rule that is given with automata asks of their rates.
use Rattle.std.specs.Prelude.{◌≡◌, List}
use Rattle.item_schema.specs.declared.column.Column.{Column}
use Rattle.rate_expr.specs.Paths.{AreOf}
use Rattle.ambiguity_example.specs.Shows.{Question, choice, split, iter}
use Rattle.ambiguity_example.specs.declared.question.Ask.{Ask}
use Rattle.ambiguity_example.specs.declared.question.Ask.TheVariants.{Choice, Split, Iter}

-- the automata are of the rates of the question
abbrev pub Asks : Ask → Question → Type 0
Asks (Choice first second) (choice r s) = AreOf first.now.sets r × AreOf second.now.sets s
Asks (Split first second) (split r s) = AreOf first.now.sets r × AreOf second.now.sets s
Asks (Iter nfa) (iter r) = AreOf nfa.now.sets r
Asks _ _ = ⊥

-- the automata read the same cells
abbrev pub ShareCells : Ask → Type 0
ShareCells (Choice first second) = first.now.cells ≡ second.now.cells
ShareCells (Split first second) = first.now.cells ≡ second.now.cells
ShareCells (Iter nfa) = Unit {0}

-- the columns of the items that they read
abbrev pub columns_of : Ask → List Column
columns_of (Choice first second) = first.now.cells.layout.columns
columns_of (Split first second) = first.now.cells.layout.columns
columns_of (Iter nfa) = nfa.now.cells.layout.columns
