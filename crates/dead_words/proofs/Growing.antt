-- How more states become known.
use Rattle.std.proofs.Common.{◌≡◌, ℕ, List, [], ◌∷◌, ◌++◌, subst, inl, inr}
use Rattle.std.specs.List.{Contains}
use Rattle.std.proofs.lemmas.List.Elements.{Contains-append_left, Contains-push}
use Rattle.rate_expr.specs.declared.state.State.{State}
use Rattle.rate_expr.specs.declared.state.State.TheVariants.{At}
use Rattle.symbolic_nfa.specs.Automata.{Automaton}
use Rattle.symbolic_nfa.specs.States.{Extends}
use Rattle.dead_words.specs.Known.{IsPut}
use Rattle.dead_words.specs.Searched.{IsAmong, IsGrown, LeadsIntoKnown}
use Rattle.dead_words.specs.declared.search.Reached.{Reached}

-- a state is among more than those that it is among
among_more : (next more : List Reached) (state : State) → IsAmong next state
    → IsAmong (next ++ more) state
among_more next more state among =
    (among.0, Contains-append_left next more among.0 among.1, among.2)

module _ (nfa : Automaton) where
  -- none became known
  pub grown_none : (known : List ℕ) (next : List Reached) → IsGrown nfa known known next
  grown_none known next = record { kept = λ mask c. c; more = λ mask c. inl c }

  -- items lead into what is known where they lead into a part of it
  pub lead_more : (known known' : List ℕ)
      → ((mask : ℕ) → Contains known mask → Contains known' mask)
      → (state : State) → LeadsIntoKnown nfa known state → LeadsIntoKnown nfa known' state
  lead_more known known' kept state lead item is =
      let found = lead item is in (found.0, kept found.0 found.1, found.2)

  module _ (old known known' : List ℕ) (next : List Reached) (mask : ℕ)
      (put : IsPut known known' mask) (before : IsGrown nfa old known next) where
    -- what was put there was known
    pub grown_known : Contains known mask → IsGrown nfa old known' next
    grown_known is = record {
      kept = λ other c. put.kept other (before.kept other c);
      more = λ other c. elim (put.only other c) [
        | inl was ↦ before.more other was
        | inr same ↦ before.more other (subst (λ (m : ℕ). Contains known m) same is)
      ];
    }

    -- its state extends and is one more of the next
    pub grown_new : (reached : Reached) → Extends nfa (At mask) → reached.state ≡ At mask
        → IsGrown nfa old known' (next ++ reached ∷ [])
    grown_new reached extends is = record {
      kept = λ other c. put.kept other (before.kept other c);
      more = λ other c. elim (put.only other c) [
        | inl was ↦ elim (before.more other was) [
          | inl older ↦ inl older
          | inr (extend, among) ↦ inr (extend, among_more next (reached ∷ []) (At other) among)
        ]
        | inr same ↦ inr (subst (λ (m : ℕ). Extends nfa (At m)
            × IsAmong (next ++ reached ∷ []) (At m)) same
            (extends, (reached, Contains-push next reached, is)))
      ];
    }
