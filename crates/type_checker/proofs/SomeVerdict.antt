-- No program is without a verdict.
use Rattle.std.proofs.Common.{◌≡◌, ◌⊎◌, inl, inr, suc, Bool, true, false, nat_eq, List, [], ◌∷◌}
use Rattle.std.proofs.Common.{◌++◌, length, map, Option, None, Some, Result, Ok, Err, refl, ap}
use Rattle.std.proofs.Common.{arith}
use Rattle.std.proofs.lemmas.Bool.Decides.{nat_tests}
use Rattle.std.proofs.lemmas.Slice.Eq.{bytes_eq-Decides}
use Rattle.std.specs.List.{AllByRecursion, Contains}
use Rattle.std.specs.Str.{bytes_eq}
use Rattle.language_base.specs.declared.refusal.Refusal.{Refusal}
use Rattle.language_base.specs.declared.rule.Rule.{Rule}
use Rattle.language_base.specs.declared.rule.Rule.TheVariants.{Choice, Compose, Empty, Iter, Rates}
use Rattle.language_base.specs.declared.rule.Rule.TheVariants.{Reach, Split}
use Rattle.item_schema.specs.declared.column.Column.{Column}
use Rattle.predicate_cells.specs.Met.{IsMet, IsUnmet}
use Rattle.predicates.specs.Predicates.{Predicate}
use Rattle.predicate_cells.proofs.MetOrNot.{met_or_not}
use Rattle.rate_equal.specs.Differences.{HaveDifference, LacksSome}
use Rattle.rate_expr.specs.Language.{In}
use Rattle.rate_expr.specs.Rates.{Regex, preds_of}
use Rattle.rate_expr.specs.Readings.{AreEqual, HasAllButEmpty}
use Rattle.rate_expr.specs.Words.{Word, IsWordOf, join}
use Rattle.rate_expr.proofs.Deciding.{in_or_not}
use Rattle.query_lets.specs.Unfolded.{unfolded}
use Rattle.query_model.specs.Queries.{Qre, atom, eps, choice, split, iter, combine, apply, compose}
use Rattle.query_model.specs.Queries.{collect}
use Rattle.query_model.specs.QueryTypes.{derived_columns, type_of}
use Rattle.query_model.specs.Rates.{rate_of}
use Rattle.query_model.specs.Rules.{Standing, free, bound}
use Rattle.query_syntax.specs.Programs.{Program}
use Rattle.type_checker.specs.Judged.{BreaksFirst, IsJudged, Verdict, ambiguous, refused}
use Rattle.query_resolver.specs.Measures.{measured}
use Rattle.type_checker.specs.Judged.{sound, unmeasured}
use Rattle.query_resolver.specs.Layouts.{layout_of}
use Rattle.query_resolver.specs.Nodes.{Node, nodes_in, places_of}
use Rattle.query_resolver.specs.Steps.{refusal}
use Rattle.type_checker.specs.WordRules.{BreaksAt, BreaksEqual, BreaksFed, BreaksMet, FirstBroken}

-- parts of one list that are as long are alike
same_front : {A : Type 0} (u v s t : List A) → length u ≡ length v → u ++ s ≡ v ++ t
    → (u ≡ v) × (s ≡ t)
same_front [] [] s t long is = (refl, is)
same_front [] (y ∷ v) s t long is = absurd (omega arith)
same_front (x ∷ u) [] s t long is = absurd (omega arith)
same_front (x ∷ u) (y ∷ v) s t long is =
    let first : x ≡ y = cc in
    let others : u ++ s ≡ v ++ t = cc in
    let rest = same_front u v s t (omega arith) others in
    let front : u ≡ v = rest.0 in (cc, rest.1)

-- so are pieces of one word that are as long
same_pieces : (us vs : List Word) → map length us ≡ map length vs → join us ≡ join vs → us ≡ vs
same_pieces [] [] long is = refl
same_pieces [] (v ∷ vs) long is = cc
same_pieces (u ∷ us) [] long is = cc
same_pieces (u ∷ us) (v ∷ vs) long is =
    let here : length u ≡ length v = cc in
    let later : map length us ≡ map length vs = cc in
    let parts = same_front u v (join us) (join vs) here is in
    let first : u ≡ v = parts.0 in
    let others : us ≡ vs = same_pieces us vs later parts.1 in cc

-- a rule is broken at the root, or none is
abbrev Decision : (Option Rule → Type 0) → Type 0
Decision Broken = ((rule : Rule) × Broken (Some rule)) ⊎ Broken None

-- it cannot be that neither holds
abbrev IsDecided : (Option Rule → Type 0) → Type 0
IsDecided Broken = (Decision Broken → ⊥) → ⊥

-- a word that is in one rate alone if it is in one of them
same_words : (columns : List Column) (r s : Regex) → (HaveDifference columns r s → ⊥)
    → AreEqual columns r s
same_words columns r s alike word is = (there, back)
  where
    there : In r word → In s word
    there here = by (in_or_not s word)
      where
        by : In s word ⊎ (In s word → ⊥) → In s word
        by (inl also) = also
        by (inr none) = absurd (alike (word, is, inl (here, none)))

    back : In s word → In r word
    back here = by (in_or_not r word)
      where
        by : In r word ⊎ (In r word → ⊥) → In r word
        by (inl also) = also
        by (inr none) = absurd (alike (word, is, inr (here, none)))

equal_decided : (columns : List Column) (r s : Regex) → IsDecided (BreaksEqual columns r s)
equal_decided columns r s never =
    never (inr (
      λ many. never (inl (Reach, many)),
      same_words columns r s
          (λ apart. never (inl (Rates, (λ many. never (inl (Reach, many)), apart)))),
    ))

-- each word of an item or more is in the rate if none is not
all_words : (columns : List Column) (r : Regex) → (LacksSome columns r → ⊥)
    → HasAllButEmpty columns r
all_words columns r lacks item more is = by (in_or_not r (item ∷ more))
  where
    by : In r (item ∷ more) ⊎ (In r (item ∷ more) → ⊥) → In r (item ∷ more)
    by (inl here) = here
    by (inr none) = absurd (lacks (item, more, is, none))

fed_decided : (standing : Standing) (columns : List Column) (r : Regex)
    → IsDecided (BreaksFed standing columns r)
fed_decided free columns r never = never (inr tt)
fed_decided bound columns r never =
    never (inr (
      λ many. never (inl (Reach, many)),
      all_words columns r
          (λ lacks. never (inl (Compose, (λ many. never (inl (Reach, many)), lacks)))),
    ))

-- some item meets each predicate, or none meets one of them
met_each : (columns : List Column) (preds : List Predicate)
    → ((pred : Predicate) × Contains preds pred × IsUnmet columns pred)
    ⊎ AllByRecursion (IsMet columns) preds
met_each columns [] = inr tt
met_each columns (pred ∷ preds) = by (met_or_not columns pred) (met_each columns preds)
  where
    by : IsMet columns pred ⊎ IsUnmet columns pred
        → ((other : Predicate) × Contains preds other × IsUnmet columns other)
        ⊎ AllByRecursion (IsMet columns) preds
        → ((other : Predicate) × Contains (pred ∷ preds) other × IsUnmet columns other)
        ⊎ AllByRecursion (IsMet columns) (pred ∷ preds)
    by (inl met) (inl (other, (k, within, is), unmet)) =
        inl (other, (suc k, omega arith, is), unmet)
    by (inl met) (inr others) = inr (met, others)
    by (inr unmet) others = inl (pred, (0, omega arith, refl), unmet)

met_decided : (columns : List Column) (preds : List Predicate) → IsDecided (BreaksMet columns preds)
met_decided columns preds never = by (met_each columns preds)
  where
    by : ((pred : Predicate) × Contains preds pred × IsUnmet columns pred)
        ⊎ AllByRecursion (IsMet columns) preds → ⊥
    by (inl unmet) = never (inl (Empty, unmet))
    by (inr met) = never (inr met)

module _ (columns : List Column) (standing : Standing) where
  atom_decided : (pred : Predicate) (e : _) → IsDecided (BreaksAt columns standing (atom pred e))
  atom_decided pred e never = by (met_or_not columns pred)
    where
      by : IsMet columns pred ⊎ IsUnmet columns pred → ⊥
      by (inl met) = never (inr met)
      by (inr unmet) = never (inl (Empty, unmet))

  split_decided : (f g : Qre) (e : _) → IsDecided (BreaksAt columns standing (split f g e))
  split_decided f g e never =
      never (inr (λ u v u' v' is first second first' second' same.
      one u v u' v' is (first, second) (first', second') same (nat_eq (length u) (length u')) refl))
    where
      one : (u v u' v' : Word) → IsWordOf columns (u ++ v) → In (rate_of f) u × In (rate_of g) v
          → In (rate_of f) u' × In (rate_of g) v' → u ++ v ≡ u' ++ v'
          → (b : Bool) → nat_eq (length u) (length u') ≡ b → u ≡ u'
      one u v u' v' is first second same true alike =
          (same_front u u' v v' (grind (arith, nat_tests, alike)) same).0
      one u v u' v' is first second same false differ = absurd (never (inl (
        Split,
        record {
          u = u;
          v = v;
          u' = u';
          v' = v';
          word = is;
          first = first;
          second = second;
          same = same;
          differ = λ alike.
              let long : length u ≡ length u' = ap length alike in
              absurd (grind (arith, nat_tests, differ, long));
        },
      )))

  iter_decided : (f : Qre) (n : _) (e : _) → IsDecided (BreaksAt columns standing (iter f n e))
  iter_decided f n e never =
      never (inr (λ us vs is first second same.
      one us vs is first second same (bytes_eq (map length us) (map length vs)) refl))
    where
      one : (us vs : List Word) → IsWordOf columns (join us) → AllByRecursion (In (rate_of f)) us
          → AllByRecursion (In (rate_of f)) vs → join us ≡ join vs → (b : Bool)
          → bytes_eq (map length us) (map length vs) ≡ b → us ≡ vs
      one us vs is first second same true alike =
          same_pieces us vs ((bytes_eq-Decides (map length us) (map length vs)).0 alike) same
      one us vs is first second same false differ = absurd (never (inl (
        Iter,
        record {
          us = us;
          vs = vs;
          word = is;
          first = first;
          second = second;
          same = same;
          differ = λ alike.
              let long : bytes_eq (map length us) (map length vs) ≡ true =
              (bytes_eq-Decides (map length us) (map length vs)).1 (ap (map length) alike) in
              absurd (cc (differ, long));
        },
      )))

  decided_at : (query : Qre) → IsDecided (BreaksAt columns standing query)
  decided_at (atom pred e) never = atom_decided pred e never
  decided_at (eps number) never = never (inr tt)
  decided_at (choice f g) never =
      never (inr (λ word is left right. never (inl (Choice, (word, is, left, right)))))
  decided_at (split f g e) never = split_decided f g e never
  decided_at (iter f n e) never = iter_decided f n e never
  decided_at (combine f g e) never = equal_decided columns (rate_of f) (rate_of g) never
  decided_at (apply f e) never = never (inr tt)
  decided_at (compose f g) never =
      fed_decided standing (derived_columns (type_of columns f)) (rate_of g) never
  decided_at (collect chosen sync rate f) never = met_decided columns (preds_of rate) never

-- the first node that breaks a rule is refused, or none is
some_refusal : (nodes : List Node) → ((why : Option Refusal) → FirstBroken nodes why → ⊥) → ⊥
some_refusal [] never = never None refl
some_refusal (node ∷ nodes) never =
    decided_at node.columns node.standing node.query
    (by (λ kept. some_refusal nodes (λ why rest. never why (inr (kept, rest)))))
  where
    by : (BreaksAt node.columns node.standing node.query None → ⊥)
        → Decision (BreaksAt node.columns node.standing node.query) → ⊥
    by none (inl (rule, broken)) = never (Some (refusal rule node.place)) (inl (rule, broken, refl))
    by none (inr kept) = none kept

module _ (program : Program) (never : (verdict : Verdict) → IsJudged program verdict → ⊥) where
  of_answer : (query : Qre) → measured program ≡ Ok query → (why : Option Refusal)
      → BreaksFirst program query why → ⊥
  of_answer query is None breaks = never _ (sound query is breaks)
  of_answer query is (Some why) breaks = never (refused why) (ambiguous query why is breaks)

  of_measured : (made : Result Qre Refusal) → measured program ≡ made → ⊥
  of_measured (Ok query) is =
      some_refusal (nodes_in (layout_of program.stream).columns free query
      (places_of (unfolded program)))
      (of_answer query is)
  of_measured (Err why) is = never (refused why) (unmeasured why is)

  pub none_without : ⊥
  none_without = of_measured (measured program) refl
