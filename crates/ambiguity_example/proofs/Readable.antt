-- Items that are read one by one.
use Rattle.std.proofs.Common.{◌≡◌, ℕ, zero, suc, ◌+◌, ◌<◌, ◌≤◌, List, [], ◌∷◌, ◌++◌, length, take}
use Rattle.std.proofs.Common.{drop, get_or, sym, ap, ◌∙◌, subst, arith}
use Rattle.std.proofs.lemmas.List.{take_more, take-append-drop}
use Rattle.std.proofs.Math.Seq.{take-length}
use Rattle.std.specs.Prelude.{Bool, IsTrue, MatchBool, ◌↔◌}
use Rattle.value_ops.specs.declared.field.Field.{Field}
use Rattle.item_schema.specs.declared.column.Column.{Column}
use Rattle.item_schema.specs.Items.{IsItemOf}
use Rattle.predicate_cells.specs.Cells.{IsIn, cell_of}
use Rattle.rate_expr.proofs.Wording.{word_parts}
use Rattle.rate_expr.specs.After.{IsAfter}
use Rattle.rate_expr.specs.Language.{In}
use Rattle.rate_expr.specs.Paths.{AreOf}
use Rattle.rate_expr.specs.Rates.{Regex}
use Rattle.rate_expr.specs.Words.{Word, IsWordOf}
use Rattle.rate_expr.specs.declared.state.State.{State}
use Rattle.symbolic_nfa.proofs.WordsAfter.{is_after-step, is_accepted-in}
use Rattle.symbolic_nfa.specs.Automata.{Automaton}
use Rattle.symbolic_nfa.specs.States.{Steps, IsAccepted}
use Rattle.ambiguity_example.proofs.Deciding.{decides}

-- an item of a word
pub word_at : (columns : List Column) (word : Word) (at : ℕ) (other : List Field)
    → IsWordOf columns word → at < length word → IsItemOf columns (get_or word at other)
word_at columns [] at other is below = absurd (omega arith)
word_at columns (item ∷ word) zero other is below = is.0
word_at columns (item ∷ word) (suc at) other is below =
    word_at columns word at other is.1 (omega arith)

-- the items of a part of a word
pub word_front : (columns : List Column) (word : Word) (count : ℕ) → IsWordOf columns word
    → IsWordOf columns (take count word)
word_front columns word count is = (word_parts columns (take count word) (drop count word)
    (subst (IsWordOf columns) (sym (take-append-drop count word)) is)).0

pub word_rest : (columns : List Column) (word : Word) (count : ℕ) → IsWordOf columns word
    → IsWordOf columns (drop count word)
word_rest columns word count is = (word_parts columns (take count word) (drop count word)
    (subst (IsWordOf columns) (sym (take-append-drop count word)) is)).1

-- the state after one more item
pub read_on : (nfa : Automaton) (items : Word) (at : ℕ) (item : List Field) (cell : ℕ)
    (state next : State) → IsWordOf nfa.cells.layout.columns items → at < length items
    → item ≡ get_or items at item → cell ≡ cell_of nfa.cells item
    → IsAfter nfa.sets (take at items) state
    → ((x : List Field) → IsIn nfa.cells cell x → Steps nfa.sets state x next)
    → IsAfter nfa.sets (take (at + 1) items) next
read_on nfa items at item cell state next is below here in_cell after steps =
    let one : IsItemOf nfa.cells.layout.columns item =
    subst (IsItemOf nfa.cells.layout.columns) (sym here)
    (word_at nfa.cells.layout.columns items at item is below) in
    let more : take (at + 1) items ≡ take at items ++ item ∷ [] =
    take_more items at item below ∙ ap (λ x. take at items ++ x ∷ []) (sym here) in
    subst (λ w. IsAfter nfa.sets w next) (sym more)
    (is_after-step nfa.sets (take at items) state next item after (steps item (one, sym in_cell)))

-- the state after all items decides whether they are a word of the rate
pub read_all : (nfa : Automaton) (items : Word) (at : ℕ) (state : State)
    (accepted : Bool) (rate : Regex) → at ≤ length items → length items ≤ at
    → IsAfter nfa.sets (take at items) state → AreOf nfa.sets rate
    → IsTrue accepted ↔ IsAccepted nfa.sets state
    → MatchBool accepted (In rate items) (In rate items → ⊥)
read_all nfa items at state accepted rate le ge after are decided =
    let end : at ≡ length items = omega arith in
    let all : take at items ≡ items = ap (λ (n : ℕ). take n items) end ∙ take-length items in
    decides accepted (IsAccepted nfa.sets state) (In rate items) decided
    (is_accepted-in nfa.sets rate items state are (subst (λ w. IsAfter nfa.sets w state) all after))
