-- What a letter leads to from a state that was reached.
use Rattle.std.proofs.Common.{◌≡◌, ℕ, ◌+◌, ◌<◌, ◌^◌, List, [], ◌∷◌, ◌++◌, length, length-append}
use Rattle.std.proofs.Common.{bit_and, sym, ap, subst, arith}
use Rattle.std.proofs.lemmas.List.Elements.{All-push}
use Rattle.std.proofs.lemmas.Nat.{and_le_l}
use Rattle.predicate_cells.specs.Cells.{cell_count}
use Rattle.rate_expr.specs.After.{IsStateOf}
use Rattle.rate_expr.specs.declared.state.State.{State}
use Rattle.rate_expr.specs.declared.state.State.TheVariants.{At}
use Rattle.symbolic_nfa.specs.Automata.{Automaton}
use Rattle.symbolic_nfa.specs.States.{AreWaysOn, Extends}
use Rattle.dead_words.specs.Letters.{IsLetter}
use Rattle.dead_words.specs.Searched.{AreCellsOf, IsEndIn, IsReachedIn, LeadTo}
use Rattle.dead_words.specs.declared.letters.Letter.{Letter}
use Rattle.dead_words.specs.declared.search.Reached.{Reached}
use Rattle.dead_words.proofs.Ending.{step_leads}

module _ (nfa : Automaton) (from : Reached) (is_from : IsReachedIn nfa from) (letter : Letter)
    (is_letter : IsLetter nfa letter) (word : List ℕ)
    (longer : word ≡ from.word.items ++ letter.cell ∷ []) where
  -- the word has one more cell
  cells_next : AreCellsOf nfa word
  cells_next = subst (AreCellsOf nfa) (sym longer)
      (All-push (λ cell. cell < cell_count nfa.cells) from.word.items letter.cell
      is_from.places_of is_letter.cell)

  pub one_longer : length word ≡ length from.word.items + 1
  one_longer = omega (arith, ap length longer, length-append from.word.items (letter.cell ∷ []))

  module _ (ways mask : ℕ) (on : AreWaysOn nfa.sets from.state ways)
      (is : mask ≡ bit_and ways letter.met) where
    -- its items lead to the state
    leads_next : LeadTo nfa word (At mask)
    leads_next = subst (λ (w : List ℕ). LeadTo nfa w (At mask)) (sym longer)
        (subst (λ (m : ℕ). LeadTo nfa (from.word.items ++ letter.cell ∷ []) (At m)) (sym is)
        (step_leads nfa from.word.items from.state ways letter.cell letter.met is_from.leads on
        is_letter.met))

    within : mask < 2 ^ length nfa.sets.preds
    within = let below = on.within in omega (arith, is, and_le_l ways letter.met)

    -- the state is one of the automaton
    pub reached_next : (next : Reached) → next.state ≡ At mask → next.word.items ≡ word
        → IsReachedIn nfa next
    reached_next next at same = record {
      state_of = subst (IsStateOf nfa.sets) (sym at) within;
      places_of = subst (AreCellsOf nfa) (sym same) cells_next;
      leads = subst (λ (s : State). LeadTo nfa next.word.items s) (sym at)
          (subst (λ (w : List ℕ). LeadTo nfa w (At mask)) (sym same) leads_next);
    }

    -- if no word can be extended from it, this is an end
    pub end_next : (Extends nfa (At mask) → ⊥) → IsEndIn nfa word
    end_next dead = record {
      places_of = cells_next;
      state = At mask;
      leads = leads_next;
      dead = dead;
    }
