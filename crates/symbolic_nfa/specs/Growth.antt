-- For the prover. From which positions a word can be extended to a word of the rate.
use Rattle.std.specs.Prelude.{ℕ, List, ◌∷◌}
use Rattle.value_ops.specs.declared.field.Field.{Field}
use Rattle.rate_expr.specs.Paths.{Follows, Meets, LeadsOn}
use Rattle.rate_expr.specs.Sets.{Has}
use Rattle.rate_expr.specs.Words.{Word, IsWordOf}
use Rattle.symbolic_nfa.specs.Automata.{Automaton}

-- an item of the stream meets the position, and items of the stream spell a path from it to a
-- position where words may end
pub record IsUseful (nfa : Automaton) (position : ℕ) : Type 0 where
  pub item : List Field
  pub word : Word
  pub end : ℕ
  pub items : IsWordOf nfa.cells.layout.columns (item ∷ word)
  pub met : Meets nfa.sets position item
  pub path : LeadsOn nfa.sets position word end
  pub last : Has nfa.sets.last end

-- a useful position may follow
abbrev pub Grows : Automaton → ℕ → Type 0
Grows nfa position = (next : ℕ) × Follows nfa.sets position next × IsUseful nfa next

-- a word may begin at a useful position
abbrev pub BeginsWords : Automaton → Type 0
BeginsWords nfa = (begin : ℕ) × Has nfa.sets.first begin × IsUseful nfa begin
