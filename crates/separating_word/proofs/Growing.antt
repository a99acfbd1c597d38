-- How more states become known.
use Rattle.std.proofs.Common.{◌≡◌, ℕ, List, [], ◌∷◌, ◌++◌, subst, inl, inr}
use Rattle.std.specs.List.{Contains}
use Rattle.std.proofs.lemmas.List.Elements.{Contains-append_left, Contains-push}
use Rattle.rate_expr.specs.declared.state.State.{State}
use Rattle.rate_expr.specs.declared.state.State.TheVariants.{At}
use Rattle.separating_word.specs.Known.{IsPut}
use Rattle.separating_word.specs.Searched.{Agree, AreAmong, IsGrown, LeadIntoKnown}
use Rattle.separating_word.specs.declared.automata.Automata.{Automata}
use Rattle.separating_word.specs.declared.search.Reached.{Reached}

-- states are among more than those that they are among
among_more : (next more : List Reached) (left right : State) → AreAmong next left right
    → AreAmong (next ++ more) left right
among_more next more left right among =
    (among.0, Contains-append_left next more among.0 among.1, among.2, among.3)

module _ (automata : Automata) where
  -- none became known
  pub grown_none : (known : List (ℕ × ℕ)) (next : List Reached) → IsGrown automata known known next
  grown_none known next = record { kept = λ masks c. c; more = λ masks c. inl c }

  -- items lead into what is known where they lead into a part of it
  pub lead_more : (known known' : List (ℕ × ℕ))
      → ((masks : ℕ × ℕ) → Contains known masks → Contains known' masks)
      → (left right : State) → LeadIntoKnown automata known left right
      → LeadIntoKnown automata known' left right
  lead_more known known' kept left right lead item is =
      let found = lead item is in (found.0, kept found.0 found.1, found.2, found.3)

  module _ (old known known' : List (ℕ × ℕ)) (next : List Reached) (masks : ℕ × ℕ)
      (put : IsPut known known' masks) (before : IsGrown automata old known next) where
    -- what was put there was known
    pub grown_known : Contains known masks → IsGrown automata old known' next
    grown_known is = record {
      kept = λ other c. put.kept other (before.kept other c);
      more = λ other c. elim (put.only other c) [
        | inl was ↦ before.more other was
        | inr same ↦ before.more other (subst (λ (m : ℕ × ℕ). Contains known m) same is)
      ];
    }

    -- it agrees and is one more of the next
    pub grown_new : (reached : Reached) → Agree automata (At masks.0) (At masks.1)
        → reached.left ≡ At masks.0 → reached.right ≡ At masks.1
        → IsGrown automata old known' (next ++ reached ∷ [])
    grown_new reached agree left right = record {
      kept = λ other c. put.kept other (before.kept other c);
      more = λ other c. elim (put.only other c) [
        | inl was ↦ elim (before.more other was) [
          | inl older ↦ inl older
          | inr (agrees, among) ↦
              inr (agrees, among_more next (reached ∷ []) (At other.0) (At other.1) among)
        ]
        | inr same ↦ inr (subst (λ (m : ℕ × ℕ). Agree automata (At m.0) (At m.1)
            × AreAmong (next ++ reached ∷ []) (At m.0) (At m.1)) same
            (agree, (reached, Contains-push next reached, left, right)))
      ];
    }
