-- What a letter leads to from states that were reached.
use Rattle.std.proofs.Common.{◌≡◌, ℕ, ◌+◌, ◌<◌, ◌^◌, List, [], ◌∷◌, ◌++◌, length, length-append}
use Rattle.std.proofs.Common.{get_or, sym, ap, subst, arith}
use Rattle.std.proofs.lemmas.List.Elements.{All-push}
use Rattle.predicate_cells.specs.Cells.{cell_count}
use Rattle.rate_expr.specs.After.{IsStateOf}
use Rattle.rate_expr.specs.declared.state.State.TheVariants.{At}
use Rattle.symbolic_nfa.specs.States.{AreWaysOn}
use Rattle.separating_word.specs.Letters.{AreLetters, target}
use Rattle.separating_word.specs.Pairs.{AreCellsOf}
use Rattle.separating_word.specs.Searched.{IsReachedIn}
use Rattle.separating_word.specs.declared.automata.Automata.{Automata}
use Rattle.separating_word.specs.declared.letters.Letter.{Letter}
use Rattle.separating_word.specs.declared.search.Reached.{Reached}
use Rattle.separating_word.proofs.Leading.{within_ways}

module _ (automata : Automata) (letters : List Letter) (are : AreLetters automata letters)
    (from : Reached) (is_from : IsReachedIn automata from) (i : ℕ) (letter : Letter)
    (within : i < length letters) (is : letter ≡ get_or letters i letter) (word : List ℕ)
    (longer : word ≡ from.word.items ++ letter.cell ∷ []) where
  -- the word has one more cell
  pub cells_next : AreCellsOf automata word
  cells_next = subst (AreCellsOf automata) (sym longer)
      (All-push (λ cell. cell < cell_count automata.left.cells)
      from.word.items letter.cell is_from.cells
      (subst (λ (l : Letter). l.cell < cell_count automata.left.cells) (sym is)
      (are.cells i letter within)))

  pub one_longer : length word ≡ length from.word.items + 1
  one_longer = omega (arith, ap length longer, length-append from.word.items (letter.cell ∷ []))

  -- the states are of the automata
  pub reached_next : (ways masks : ℕ × ℕ) → AreWaysOn automata.left.sets from.left ways.0
      → AreWaysOn automata.right.sets from.right ways.1 → masks ≡ target ways letter
      → (next : Reached) → next.left ≡ At masks.0 → next.right ≡ At masks.1 → next.word.items ≡ word
      → IsReachedIn automata next
  reached_next ways masks on_left on_right leads next left right same = record {
    left_of = subst (IsStateOf automata.left.sets) (sym left)
        (subst (λ (m : ℕ × ℕ). m.0 < 2 ^ length automata.left.sets.preds) (sym leads)
        (within_ways ways.0 letter.left (2 ^ length automata.left.sets.preds) on_left.within));
    right_of = subst (IsStateOf automata.right.sets) (sym right)
        (subst (λ (m : ℕ × ℕ). m.1 < 2 ^ length automata.right.sets.preds) (sym leads)
        (within_ways ways.1 letter.right (2 ^ length automata.right.sets.preds) on_right.within));
    cells = subst (AreCellsOf automata) (sym same) cells_next;
  }
