-- Pairs from which words continue in the same positions lead to the same pairs.
use Rattle.std.proofs.Common.{◌≡◌, ℕ, ◌+◌, ◌⊎◌, List, [], Some, ap, arith, length, slice_get, subst}
use Rattle.std.proofs.Common.{sym, inl, inr}
use Rattle.std.specs.List.{Contains}
use Rattle.std.proofs.lemmas.List.{append-nil}
use Rattle.std.proofs.lemmas.List.Elements.{Contains-append_left}
use Rattle.std.proofs.lemmas.Option.{get_or_from_slice_get, slice_get_within}
use Rattle.value_ops.specs.declared.field.Field.{Field}
use Rattle.rate_expr.specs.Sets.{Sets}
use Rattle.rate_expr.specs.declared.state.State.{State}
use Rattle.rate_expr.specs.declared.state.State.TheVariants.{Initial, At}
use Rattle.symbolic_nfa.specs.Automata.{Automaton}
use Rattle.symbolic_nfa.specs.States.{AreWaysOn, Steps}
use Rattle.rate_equal.specs.Pairs.{AreWaysOnFrom, IsExplored, IsGrown, LeadsInto}
use Rattle.rate_equal.specs.declared.pair.Pair.{Pair}
use Rattle.rate_equal.proofs.Searched.{IsSearched, searched_next}

-- where one state leads, another with the same ways on does
steps_as : (sets : Sets) (one other : State) (ways : ℕ) → AreWaysOn sets one ways
    → AreWaysOn sets other ways → (item : List Field) (next : State) → Steps sets one item next
    → Steps sets other item next
steps_as sets one other ways of_one of_other item Initial steps = absurd steps
steps_as sets one other ways of_one of_other item (At mask) steps = record {
  sound = λ next has. let on = steps.sound next has in
      ((of_other.exact next).0 ((of_one.exact next).1 on.0), on.1);
  whole = λ next goes meets. steps.whole next
      ((of_one.exact next).0 ((of_other.exact next).1 goes)) meets;
}

module _ (first second : Automaton) where
  -- where one pair leads into these, another with the same ways on does
  leads_as : (pairs : List Pair) (ways : ℕ × ℕ) (one other : Pair)
      → AreWaysOnFrom first second one ways → AreWaysOnFrom first second other ways
      → LeadsInto first second pairs one → LeadsInto first second pairs other
  leads_as pairs ways one other of_one of_other leads item is = let next = leads item is in (
    next.0,
    next.1,
    steps_as first.sets one.first other.first ways.0 of_one.0 of_other.0 item next.0.first next.2,
    steps_as second.sets one.second other.second ways.1 of_one.1 of_other.1 item
        next.0.second next.3,
  )

  -- a pair with these ways on leads into the pairs
  abbrev pub IsGone : List Pair → ℕ × ℕ → Type 0
  IsGone pairs ways =
      (from : Pair) × AreWaysOnFrom first second from ways × LeadsInto first second pairs from

  abbrev pub AreGone : List Pair → List (ℕ × ℕ) → Type 0
  AreGone pairs gone = (ways : ℕ × ℕ) → Contains gone ways → IsGone pairs ways

  -- at first none have gone
  pub none_gone : (pairs : List Pair) (gone : List (ℕ × ℕ)) → gone ≡ [] → AreGone pairs gone
  none_gone pairs gone none ways c = let lt = c.1 in absurd (omega (arith, lt, ap length none))

  -- more pairs do not matter
  gone_grown : (pairs pairs' : List Pair) (ways : ℕ × ℕ) → IsGrown pairs pairs' → IsGone pairs ways
      → IsGone pairs' ways
  gone_grown pairs pairs' ways grown gone = (
    gone.0,
    gone.1,
    λ item is.
        let next = gone.2 item is in (
          next.0,
          subst (λ l. Contains l next.0) (sym grown.1)
              (Contains-append_left pairs grown.0 next.0 next.1),
          next.2,
          next.3,
        ),
  )

  module _ (gone gone' : List (ℕ × ℕ)) (ways : ℕ × ℕ)
      (more : (other : ℕ × ℕ) → Contains gone' other → Contains gone other ⊎ (ways ≡ other))
      (pairs : List Pair) (before : AreGone pairs gone) (end : ℕ)
      (searched : IsSearched first second pairs end) (from : Pair)
      (found : slice_get pairs end ≡ Some from) (here : AreWaysOnFrom first second from ways) where
    -- some pair with these ways on leads into these
    more_gone : (pairs' : List Pair) → IsExplored first second from pairs pairs'
        → AreGone pairs' gone'
    more_gone pairs' explored other c = elim (more other c) [
      | inl was ↦ gone_grown pairs pairs' other explored.grown (before other was)
      | inr is ↦ subst (λ w. IsGone pairs' w) is (from, here, explored.done)
    ]

    -- from the pair words now continue, and with its ways
    pub searched_new : (pairs' : List Pair) → IsExplored first second from pairs pairs'
        → IsSearched first second pairs' (end + 1) × AreGone pairs' gone'
    searched_new pairs' explored = (
      searched_next first second pairs pairs' end from searched
          (λ d. get_or_from_slice_get pairs end from d found)
          (slice_get_within pairs end from found) explored,
      more_gone pairs' explored,
    )

    -- with its ways they continued before
    pub searched_known : Contains gone ways
        → IsSearched first second pairs (end + 1) × AreGone pairs gone'
    searched_known known =
        let (one, of_one, leads) = before ways known in
        searched_new pairs record {
          reached = searched.reached;
          grown = ([], sym (append-nil pairs));
          done = leads_as pairs ways one from of_one here leads;
        }
