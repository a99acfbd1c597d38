-- What a test of a fact says, and the parts of words of cells.
use Rattle.std.proofs.Common.{◌≡◌, ◌↔◌, ℕ, Bool, true, false, List, [], ◌∷◌, ◌++◌, refl, sym, ap}
use Rattle.std.proofs.Common.{bit_and, subst}
use Rattle.std.specs.Prelude.{IsTrue}
use Rattle.std.proofs.lemmas.List.Elements.{All-nil}
use Rattle.value_ops.specs.declared.field.Field.{Field}
use Rattle.predicate_cells.specs.Cells.{Partition, IsIn}
use Rattle.rate_expr.specs.After.{IsAfter}
use Rattle.rate_expr.specs.Words.{Word}
use Rattle.rate_expr.specs.declared.state.State.{State}
use Rattle.rate_expr.specs.declared.state.State.TheVariants.{Initial, At}
use Rattle.symbolic_nfa.specs.Automata.{Automaton}
use Rattle.symbolic_nfa.specs.States.{AreWaysOn, Extends, IsMetBy}
use Rattle.symbolic_nfa.proofs.StatesOn.{steps_to-and}
use Rattle.symbolic_nfa.proofs.WordsAfter.{is_after-step}
use Rattle.dead_words.specs.Outlooks.{AreIn}
use Rattle.dead_words.specs.Searched.{IsEndIn, LeadTo}

pub so_if_true : {P : Type 0} (test : Bool) → IsTrue test ↔ P → test ≡ true → P
so_if_true true exact is = exact.0 refl
so_if_true false exact is = absurd (cc)

pub not_if_false : {P : Type 0} (test : Bool) → IsTrue test ↔ P → test ≡ false → P → ⊥
not_if_false true exact is holds = absurd (cc)
not_if_false false exact is holds = let never = exact.1 holds in absurd (cc)

-- items in some cells and one more are items in these and an item in that
pub last_in : (cells : Partition) (places : List ℕ) (place : ℕ) (word : Word)
    → AreIn cells (places ++ place ∷ []) word
    → (front : Word) × (item : List Field) × (word ≡ front ++ item ∷ [])
    × AreIn cells places front × IsIn cells place item
last_in cells [] place [] are = absurd are
last_in cells [] place (item ∷ []) are = ([], item, refl, tt, are.0)
last_in cells [] place (item ∷ x ∷ word) are = absurd are.1
last_in cells (first ∷ places) place [] are = absurd are
last_in cells (first ∷ places) place (item ∷ word) are =
    let rest = last_in cells places place word are.1 in
    (item ∷ rest.0, rest.1, ap (λ (w : Word). item ∷ w) rest.2, (are.0, rest.3), rest.4)

-- one more cell leads to where its items lead
pub step_leads : (nfa : Automaton) (places : List ℕ) (state : State) (ways cell met : ℕ)
    → LeadTo nfa places state → AreWaysOn nfa.sets state ways → IsMetBy nfa cell met
    → LeadTo nfa (places ++ cell ∷ []) (At (bit_and ways met))
step_leads nfa places state ways cell met leads on is_met word are =
    let last = last_in nfa.cells places cell word are in
    subst (λ (w : Word). IsAfter nfa.sets w (At (bit_and ways met))) (sym last.2)
    (is_after-step nfa.sets last.0 state (At (bit_and ways met)) last.1 (leads last.0 last.3)
    (steps_to-and nfa.sets nfa.cells state cell ways met last.1 on is_met last.4))

-- no item leads to the initial state
pub leads_first : (nfa : Automaton) → LeadTo nfa [] Initial
leads_first nfa [] are = tt
leads_first nfa (item ∷ word) are = absurd are

-- where no word can be extended from there, this is an end
pub first_end : (nfa : Automaton) → (Extends nfa Initial → ⊥) → IsEndIn nfa []
first_end nfa dead = record {
  places_of = All-nil _;
  state = Initial;
  leads = leads_first nfa;
  dead = dead;
}
