-- How many pairs of states words lead to, by the pairs that were found.
use Rattle.std.proofs.Common.{◌≡◌, ℕ, suc, ◌<◌, ◌∙◌, Bool, false, List, [], ◌∷◌, length, refl, sym}
use Rattle.std.proofs.Common.{ap, arith}
use Rattle.std.specs.List.{AllByRecursion, AllPairs, Contains, IsDistinct}
use Rattle.std.proofs.lemmas.Map.Keys.{IsDistinct-head, IsDistinct-tail}
use Rattle.item_schema.specs.declared.column.Column.{Column}
use Rattle.rate_expr.specs.After.{IsAfter}
use Rattle.rate_expr.specs.Sets.{Sets}
use Rattle.rate_expr.specs.Words.{Word, IsWordOf}
use Rattle.symbolic_nfa.specs.Automata.{Automaton}
use Rattle.rate_expr.proofs.StatesAfter.{one_after}
use Rattle.rate_equal.specs.Reach.{max_reach, LeadApart, LeadToApart, ReachStates, ReachPairs}
use Rattle.rate_equal.specs.Pairs.{IsReached, AreAll, AreAfter}
use Rattle.rate_equal.specs.declared.pair.Pair.{Pair}
use Rattle.rate_equal.proofs.Pigeons.{all_of_contained, all_as, pairs_more, as_many_places}

module _ (first second : Automaton) where
  -- words that lead to these pairs, one to each
  words_to : (pairs : List Pair) → AllByRecursion (IsReached first second) pairs → List Word
  words_to [] all = []
  words_to (pair ∷ pairs) all = all.0.0 ∷ words_to pairs all.1

  -- they are words of the columns
  all_items : (pairs : List Pair) (all : AllByRecursion (IsReached first second) pairs)
      → AllByRecursion (IsWordOf first.cells.layout.columns) (words_to pairs all)
  unfolding words_to
  all_items [] all = tt
  all_items (pair ∷ pairs) all = (all.0.1, all_items pairs all.1)

  -- and as many
  as_many : (pairs : List Pair) (all : AllByRecursion (IsReached first second) pairs)
      → length (words_to pairs all) ≡ length pairs
  unfolding words_to
  as_many [] all = refl
  as_many (pair ∷ pairs) all = ap suc (as_many pairs all.1)

  module _ (eq : Pair → Pair → Bool) (unlike : (x y : Pair) → eq x y ≡ false → x ≡ y → ⊥) where
    -- words that lead to unlike pairs are apart
    apart_to : (x y : Pair) (one : IsReached first second x)
        (other : IsReached first second y) → eq x y ≡ false
        → LeadToApart first.sets second.sets one.0 other.0
    apart_to x y (u, is, (at, at')) (v, is', (to, to')) differ s s' t t' after after' also
        also' same same' =
        let one : x.first ≡ y.first = sym (one_after first.sets u x.first s at after) ∙ same
        ∙ one_after first.sets v y.first s' to after' in
        let two : x.second ≡ y.second = sym (one_after second.sets u x.second t at' also) ∙ same'
        ∙ one_after second.sets v y.second t' to' also' in
        unlike x y differ (λ j. record { first = one j; second = two j })

    -- from words to all these
    apart_from : (x : Pair) (one : IsReached first second x) (pairs : List Pair)
        (all : AllByRecursion (IsReached first second) pairs)
        → AllByRecursion (λ y. eq x y ≡ false) pairs
        → AllByRecursion (LeadToApart first.sets second.sets one.0) (words_to pairs all)
    unfolding words_to
    apart_from x one [] all differ = tt
    apart_from x one (y ∷ pairs) all differ =
        (apart_to x y one all.0 differ.0, apart_from x one pairs all.1 differ.1)

    -- each two of them
    all_apart : (pairs : List Pair) (all : AllByRecursion (IsReached first second) pairs)
        → IsDistinct eq pairs → AllPairs (LeadToApart first.sets second.sets) (words_to pairs all)
    unfolding words_to
    all_apart [] all distinct = λ i j d lt within. absurd (omega arith)
    all_apart (x ∷ pairs) all distinct =
        pairs_more (LeadToApart first.sets second.sets) all.0.0 (words_to pairs all.1)
        (apart_from x all.0 pairs all.1 (IsDistinct-head eq x pairs distinct))
        (all_apart pairs all.1 (IsDistinct-tail eq x pairs distinct))

    -- as many words have different pairs of states after them
    pub as_many_words : (pairs : List Pair) → IsDistinct eq pairs
        → ((pair : Pair) → Contains pairs pair → IsReached first second pair) → (count : ℕ)
        → length pairs ≡ count → ReachPairs first.cells.layout.columns first.sets second.sets count
    as_many_words pairs distinct reached count is =
        let all = all_of_contained (IsReached first second) pairs reached in
        record {
          words = words_to pairs all;
          items = all_items pairs all;
          each_two = all_apart pairs all distinct;
          word_count = as_many pairs all ∙ is;
        }

  module _ (pairs : List Pair) (all : AreAll first second pairs) (count : ℕ)
      (many : max_reach < count) where
    -- no more words have different pairs of states after them
    pub no_more_pairs : ReachPairs first.cells.layout.columns first.sets second.sets count → ⊥
    no_more_pairs reach =
        let few' = as_many_places (AreAfter first second) (LeadToApart first.sets second.sets)
        (λ u v pair at to apart. apart pair.first pair.first pair.second pair.second at.0 to.0
        at.1 to.1 refl refl)
        reach.words pairs (all_as _ _ reach.words all.whole reach.items) reach.each_two in
        omega (arith, reach.word_count, all.reached.few)

    -- nor different states of the first automaton
    pub no_more_states : ReachStates first.cells.layout.columns first.sets count → ⊥
    no_more_states reach =
        let few' = as_many_places (λ w (pair : Pair). IsAfter first.sets w pair.first)
        (LeadApart first.sets) (λ u v pair at to apart. apart pair.first pair.first at to refl)
        reach.words pairs
        (all_as _ _ reach.words
        (λ w is. let (pair, c, (at, to)) = all.whole w is in (pair, c, at)) reach.items)
        reach.each_two in
        omega (arith, reach.word_count, all.reached.few)

-- different pairs of states of one automaton are different states
pub states_of_pairs : (columns : List Column) (sets : Sets) (count : ℕ)
    → ReachPairs columns sets sets count → ReachStates columns sets count
states_of_pairs columns sets count reach = record {
  words = reach.words;
  items = reach.items;
  each_two = λ i j d lt within s s' at to same.
      reach.each_two i j d lt within s s' s s' at to at to same same;
  word_count = reach.word_count;
}
