-- What the states after all words say of rates.
use Rattle.std.proofs.Common.{Bool, true, false, List, [], ◌∷◌, inl, inr, All, Any, MatchBool}
use Rattle.std.proofs.lemmas.List.Elements.{All-contains}
use Rattle.value_ops.specs.declared.field.Field.{Field}
use Rattle.rate_expr.specs.After.{IsAfter}
use Rattle.rate_expr.specs.Language.{In}
use Rattle.rate_expr.specs.Paths.{AreOf}
use Rattle.rate_expr.specs.Rates.{Regex}
use Rattle.rate_expr.specs.Readings.{AreEqual, HasAllButEmpty}
use Rattle.rate_expr.specs.Words.{Word, IsWordOf}
use Rattle.rate_expr.specs.declared.state.State.{State}
use Rattle.rate_expr.specs.declared.state.State.TheVariants.{Initial, At}
use Rattle.symbolic_nfa.specs.Automata.{Automaton}
use Rattle.symbolic_nfa.proofs.WordsAfter.{is_accepted-in}
use Rattle.rate_equal.specs.Endings.{Agree, Disagree, EndsThere, EndsElsewhere, IsFull, IsLacking}
use Rattle.rate_equal.specs.Differences.{IsInOne, HaveDifference, LacksSome}
use Rattle.rate_equal.specs.Pairs.{AreAll}
use Rattle.rate_equal.specs.declared.pair.Pair.{Pair}

module _ (first second : Automaton) (pairs : List Pair) (all : AreAll first second pairs) where
  module _ (r s : Regex) (of_r : AreOf first.sets r) (of_s : AreOf second.sets s) where
    -- states that disagree are after a word that is in one of the rates
    in_one : (word : Word) (pair : Pair) → IsAfter first.sets word pair.first
        → IsAfter second.sets word pair.second → Disagree first.sets second.sets pair
        → IsInOne r s word
    in_one word pair at to (inl (yes', no')) = inl (
      (is_accepted-in first.sets r word pair.first of_r at).0 yes',
      λ in_s. no' ((is_accepted-in second.sets s word pair.second of_s to).1 in_s),
    )
    in_one word pair at to (inr (yes', no')) = inr (
      (is_accepted-in second.sets s word pair.second of_s to).0 yes',
      λ in_r. no' ((is_accepted-in first.sets r word pair.first of_r at).1 in_r),
    )

    -- whether the rates are equal
    pub equal_says : (answer : Bool)
        → MatchBool answer (All (Agree first.sets second.sets) pairs)
        (Any (Disagree first.sets second.sets) pairs) → MatchBool answer
        (AreEqual first.cells.layout.columns r s) (HaveDifference first.cells.layout.columns r s)
    equal_says true agree = λ word is.
        let (pair, c, (at, to)) = all.whole word is in
        let both = All-contains (Agree first.sets second.sets) pairs pair agree c in
        let in_r = is_accepted-in first.sets r word pair.first of_r at in
        let in_s = is_accepted-in second.sets s word pair.second of_s to in
        (λ one. in_s.0 (both.0 (in_r.1 one)), λ other. in_r.0 (both.1 (in_s.1 other)))
    equal_says false (k, pair, lt, at, differ) =
        let (word, is, (here, there)) = all.reached.each pair (k, lt, at) in
        (word, is, in_one word pair here there differ)

  module _ (r : Regex) (of_r : AreOf first.sets r) where
    -- a word of at least one item is in the rate where words may end after it
    in_full : (item : List Field) (more : Word) (state : State)
        → IsAfter first.sets (item ∷ more) state → EndsThere first.sets state → In r (item ∷ more)
    in_full item more Initial after ends = absurd after
    in_full item more (At mask) after ends =
        (is_accepted-in first.sets r (item ∷ more) (At mask) of_r after).0 ends

    -- and not in it where none may
    not_in : (word : Word) (state : State) → IsWordOf first.cells.layout.columns word
        → IsAfter first.sets word state → EndsElsewhere first.sets state
        → LacksSome first.cells.layout.columns r
    not_in word Initial is after none = absurd none
    not_in [] (At mask) is after none = absurd after
    not_in (item ∷ more) (At mask) is after none = (
      item,
      more,
      is,
      λ in_r. none ((is_accepted-in first.sets r (item ∷ more) (At mask) of_r after).1 in_r),
    )

    -- whether the rate has all words but the empty one
    pub full_says : (answer : Bool)
        → MatchBool answer (All (IsFull first.sets) pairs) (Any (IsLacking first.sets) pairs)
        → MatchBool answer (HasAllButEmpty first.cells.layout.columns r)
        (LacksSome first.cells.layout.columns r)
    full_says true full = λ item more is.
        let (pair, c, (at, to)) = all.whole (item ∷ more) is in
        in_full item more pair.first at (All-contains (IsFull first.sets) pairs pair full c)
    full_says false (k, pair, lt, at, lacks) =
        let (word, is, (here, there)) = all.reached.each pair (k, lt, at) in
        not_in word pair.first is here lacks
