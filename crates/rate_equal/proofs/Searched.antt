-- What the search for pairs keeps, and that it ends with all of them.
use Rattle.std.proofs.Common.{◌≡◌, ℕ, zero, suc, ◌+◌, ◌<◌, ◌≤◌, ◌∙◌, List, [], ◌∷◌, ◌++◌, length}
use Rattle.std.proofs.Common.{get_or, slice_get, Some, None, sym, ap, subst, inl, inr, arith}
use Rattle.std.proofs.Common.{append_assoc, length-append}
use Rattle.std.specs.List.{Contains}
use Rattle.std.proofs.lemmas.Bool.{cases_lt}
use Rattle.std.proofs.lemmas.List.{append-nil, get_or_append_left}
use Rattle.std.proofs.lemmas.List.Elements.{Contains-append_left}
use Rattle.std.proofs.lemmas.Option.{get_or_from_slice_get, slice_get_within}
use Rattle.rate_expr.specs.Words.{Word, IsWordOf}
use Rattle.rate_expr.specs.declared.state.State.TheVariants.{Initial}
use Rattle.symbolic_nfa.specs.Automata.{Automaton}
use Rattle.symbolic_nfa.proofs.WordsAfter.{is_after-step}
use Rattle.rate_equal.specs.Pairs.{IsReached, AreReached, AreAll, AreAfter, LeadsInto, IsExplored}
use Rattle.rate_equal.specs.declared.pair.Pair.{Pair}

-- where a list has nothing, it has ended
pub past_all : {A : Type 0} (xs : List A) (i : ℕ) → slice_get xs i ≡ None → length xs ≤ i
past_all [] i none = omega arith
past_all (x ∷ xs) zero none = absurd (cc)
past_all (x ∷ xs) (suc i) none = let rest = past_all xs i none in omega arith

-- after the empty word
abbrev pub initial : Pair
initial = record { first = Initial; second = Initial }

module _ (first second : Automaton) where
  -- the pairs below an index lead into these, of which the initial one is one
  pub record IsSearched (pairs : List Pair) (end : ℕ) : Type 0 where
    pub begun : Contains pairs initial
    pub reached : AreReached first second pairs
    pub done : (k : ℕ) (d : Pair) → k < end → LeadsInto first second pairs (get_or pairs k d)
    pub within : end ≤ length pairs

  -- words lead to the pair at the index
  pub reached_at : (pairs : List Pair) (end : ℕ) (from : Pair) → IsSearched pairs end
      → slice_get pairs end ≡ Some from → IsReached first second from
  reached_at pairs end from searched found = searched.reached.each from
      (end, slice_get_within pairs end from found, get_or_from_slice_get pairs end from from found)

  -- where it led into these, it leads into more
  leads_on : (pairs more : List Pair) (from : Pair) → LeadsInto first second pairs from
      → LeadsInto first second (pairs ++ more) from
  leads_on pairs more from leads item is =
      let next = leads item is in
      (next.0, Contains-append_left pairs more next.0 next.1, next.2, next.3)

  -- one more pair leads into these
  pub searched_next : (pairs pairs' : List Pair) (end : ℕ) (from : Pair) → IsSearched pairs end
      → ((d : Pair) → get_or pairs end d ≡ from) → end < length pairs
      → IsExplored first second from pairs pairs' → IsSearched pairs' (end + 1)
  searched_next pairs pairs' end from before at within explored =
      let (more, is) = explored.grown in record {
        begun = subst (λ l. Contains l initial) (sym is)
            (Contains-append_left pairs more initial before.begun);
        reached = explored.reached;
        done = λ k d lt. elim (cases_lt k end) [
          | inl less ↦ subst (λ l. LeadsInto first second l (get_or l k d)) (sym is)
              (subst (λ p. LeadsInto first second (pairs ++ more) p)
              (sym (get_or_append_left pairs more d k (omega (arith, before.within))))
              (leads_on pairs more (get_or pairs k d) (before.done k d less)))
          | inr most ↦ let here : k ≡ end = omega arith in
              subst (λ p. LeadsInto first second pairs' p)
              (sym (ap (λ l. get_or l k d) is ∙ get_or_append_left pairs more d k (omega arith)
              ∙ ap (λ (i : ℕ). get_or pairs i d) here ∙ at d)) explored.done
        ];
        within = omega (arith, ap length is, length-append pairs more);
      }

  module _ (pairs : List Pair)
      (closed : (pair : Pair) → Contains pairs pair → LeadsInto first second pairs pair) where
    -- a word leads on into these
    word_leads : (u rest : Word) (pair : Pair) → Contains pairs pair → AreAfter first second u pair
        → IsWordOf first.cells.layout.columns rest
        → (to : Pair) × Contains pairs to × AreAfter first second (u ++ rest) to
    word_leads u [] pair c after is =
        (pair, c, subst (λ w. AreAfter first second w pair) (sym (append-nil u)) after)
    word_leads u (item ∷ rest) pair c after is =
        let (next, c', one, two) = closed pair c item is.0 in
        let (to, c'', there) = word_leads (u ++ item ∷ []) rest next c' (
          is_after-step first.sets u pair.first next.first item after.0 one,
          is_after-step second.sets u pair.second next.second item after.1 two,
        ) is.1 in
        (to, c'', subst (λ w. AreAfter first second w to) (append_assoc u (item ∷ []) rest) there)

  -- all words lead to these
  pub searched_all : (pairs : List Pair) (end : ℕ) → IsSearched pairs end → length pairs ≤ end
      → AreAll first second pairs
  searched_all pairs end all most = record {
    reached = all.reached;
    whole = λ word is. word_leads pairs
        (λ pair c. subst (λ p. LeadsInto first second pairs p) c.2
        (all.done c.0 pair (omega (arith, c.1))))
        [] word initial all.begun (tt, tt) is;
  }
