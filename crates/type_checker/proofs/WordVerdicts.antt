-- The rules of words are broken in one way: at a node, and at the first node of a query
-- that breaks one.
use Rattle.std.proofs.Common.{◌≡◌, inl, inr, zero, suc, false, List, [], ◌∷◌, Option, None, Some}
use Rattle.std.proofs.Common.{refl, sym, ap, subst, ◌∙◌, arith}
use Rattle.std.specs.List.{AllByRecursion, Contains}
use Rattle.language_base.specs.declared.refusal.Refusal.{Refusal}
use Rattle.language_base.specs.declared.rule.Rule.{Rule}
use Rattle.language_base.specs.declared.rule.Rule.TheVariants.{Choice, Compose, Empty, Iter, Rates}
use Rattle.language_base.specs.declared.rule.Rule.TheVariants.{Reach, Split}
use Rattle.item_schema.specs.declared.column.Column.{Column}
use Rattle.predicate_cells.specs.Met.{IsMet, IsUnmet}
use Rattle.predicates.specs.Predicates.{Predicate}
use Rattle.predicates.specs.Truth.{holds}
use Rattle.rate_equal.specs.Differences.{HaveDifference}
use Rattle.rate_expr.specs.Rates.{Regex, preds_of}
use Rattle.rate_expr.specs.Readings.{AreEqual}
use Rattle.query_model.specs.Queries.{Qre, atom, eps, choice, split, iter, combine, apply, compose}
use Rattle.query_model.specs.Queries.{collect}
use Rattle.query_model.specs.QueryTypes.{derived_columns, type_of}
use Rattle.query_model.specs.Rates.{rate_of}
use Rattle.query_model.specs.Rules.{Standing, free, bound}
use Rattle.query_resolver.specs.Nodes.{Node}
use Rattle.query_resolver.specs.Steps.{refusal}
use Rattle.type_checker.specs.WordRules.{BreaksAt, BreaksEqual, BreaksFed, BreaksMet, FirstBroken}

-- what holds of all holds of each
member : {A : Type 0} (P : A → Type 0) (xs : List A) (x : A) → AllByRecursion P xs
    → Contains xs x → P x
member P [] x all (k, within, is) = absurd (omega arith)
member P (first ∷ xs) x all (zero, within, is) = subst P is all.0
member P (first ∷ xs) x all (suc k, within, is) = member P xs x all.1 (k, omega arith, is)

-- an item does not meet a predicate that none meets
apart : (columns : List Column) (pred : Predicate) → IsUnmet columns pred → IsMet columns pred → ⊥
apart columns pred unmet (item, is, meets) = let fails : holds pred item ≡ false =
    unmet item is in cc

-- words do not distinguish rates that have the same
alike : (columns : List Column) (r s : Regex) → HaveDifference columns r s
    → AreEqual columns r s → ⊥
alike columns r s (word, is, inl (here, none)) equal = none ((equal word is).0 here)
alike columns r s (word, is, inr (here, none)) equal = none ((equal word is).1 here)

-- the rates of a combination
equal_once : (columns : List Column) (r s : Regex) (rule other : Rule)
    → BreaksEqual columns r s (Some rule) → BreaksEqual columns r s (Some other) → other ≡ rule
equal_once columns r s Reach Reach broken broken' = refl
equal_once columns r s Reach Rates broken broken' = absurd (broken'.0 broken)
equal_once columns r s Rates Reach broken broken' = absurd (broken.0 broken')
equal_once columns r s Rates Rates broken broken' = refl
equal_once columns r s Reach _ broken broken' = absurd broken'
equal_once columns r s Rates _ broken broken' = absurd broken'
equal_once columns r s _ _ broken broken' = absurd broken

equal_or : (columns : List Column) (r s : Regex) (rule : Rule) → BreaksEqual columns r s (Some rule)
    → BreaksEqual columns r s None → ⊥
equal_or columns r s Reach broken kept = kept.0 broken
equal_or columns r s Rates broken kept = alike columns r s broken.1 kept.1
equal_or columns r s _ broken kept = broken

-- the rate of the right operand of a composition
fed_once : (standing : Standing) (columns : List Column) (r : Regex) (rule other : Rule)
    → BreaksFed standing columns r (Some rule)
    → BreaksFed standing columns r (Some other) → other ≡ rule
fed_once free columns r rule other broken broken' = absurd broken
fed_once bound columns r Reach Reach broken broken' = refl
fed_once bound columns r Reach Compose broken broken' = absurd (broken'.0 broken)
fed_once bound columns r Compose Reach broken broken' = absurd (broken.0 broken')
fed_once bound columns r Compose Compose broken broken' = refl
fed_once bound columns r Reach _ broken broken' = absurd broken'
fed_once bound columns r Compose _ broken broken' = absurd broken'
fed_once bound columns r _ _ broken broken' = absurd broken

fed_or : (standing : Standing) (columns : List Column) (r : Regex) (rule : Rule)
    → BreaksFed standing columns r (Some rule) → BreaksFed standing columns r None → ⊥
fed_or free columns r rule broken kept = broken
fed_or bound columns r Reach broken kept = kept.0 broken
fed_or bound columns r Compose (few, (item, more, is, lacks)) kept = lacks (kept.1 item more is)
fed_or bound columns r _ broken kept = broken

-- the predicates of a collection's rate
met_rule : (columns : List Column) (preds : List Predicate) (rule : Rule)
    → BreaksMet columns preds (Some rule) → rule ≡ Empty
met_rule columns preds Empty broken = refl
met_rule columns preds _ broken = absurd broken

met_or : (columns : List Column) (preds : List Predicate) (rule : Rule)
    → BreaksMet columns preds (Some rule) → BreaksMet columns preds None → ⊥
met_or columns preds Empty (pred, contains, unmet) kept =
    apart columns pred unmet (member (IsMet columns) preds pred kept contains)
met_or columns preds _ broken kept = broken

module _ (columns : List Column) (standing : Standing) where
  -- the shapes that have one rule
  atom_rule : (pred : Predicate) (e : _) (rule : Rule)
      → BreaksAt columns standing (atom pred e) (Some rule) → rule ≡ Empty
  atom_rule pred e Empty broken = refl
  atom_rule pred e _ broken = absurd broken

  choice_rule : (f g : Qre) (rule : Rule)
      → BreaksAt columns standing (choice f g) (Some rule) → rule ≡ Choice
  choice_rule f g Choice broken = refl
  choice_rule f g _ broken = absurd broken

  split_rule : (f g : Qre) (e : _) (rule : Rule)
      → BreaksAt columns standing (split f g e) (Some rule) → rule ≡ Split
  split_rule f g e Split broken = refl
  split_rule f g e _ broken = absurd broken

  iter_rule : (f : Qre) (n : _) (e : _) (rule : Rule)
      → BreaksAt columns standing (iter f n e) (Some rule) → rule ≡ Iter
  iter_rule f n e Iter broken = refl
  iter_rule f n e _ broken = absurd broken

  -- two rules that a query is the first to break at its root are one
  one_rule : (query : Qre) (rule other : Rule) → BreaksAt columns standing query (Some rule)
      → BreaksAt columns standing query (Some other) → other ≡ rule
  one_rule (atom pred e) rule other broken broken' =
      atom_rule pred e other broken' ∙ sym (atom_rule pred e rule broken)
  one_rule (eps number) rule other broken broken' = absurd broken
  one_rule (choice f g) rule other broken broken' =
      choice_rule f g other broken' ∙ sym (choice_rule f g rule broken)
  one_rule (split f g e) rule other broken broken' =
      split_rule f g e other broken' ∙ sym (split_rule f g e rule broken)
  one_rule (iter f n e) rule other broken broken' =
      iter_rule f n e other broken' ∙ sym (iter_rule f n e rule broken)
  one_rule (combine f g e) rule other broken broken' =
      equal_once columns (rate_of f) (rate_of g) rule other broken broken'
  one_rule (apply f e) rule other broken broken' = absurd broken
  one_rule (compose f g) rule other broken broken' =
      fed_once standing (derived_columns (type_of columns f)) (rate_of g) rule other broken broken'
  one_rule (collect chosen sync rate f) rule other broken broken' =
      met_rule columns (preds_of rate) other broken'
      ∙ sym (met_rule columns (preds_of rate) rule broken)

  -- and it does not break a rule and keep them all
  pub broken_or_kept : (query : Qre) (rule : Rule) → BreaksAt columns standing query (Some rule)
      → BreaksAt columns standing query None → ⊥
  broken_or_kept (atom pred e) Empty broken kept = apart columns pred broken kept
  broken_or_kept (atom pred e) _ broken kept = broken
  broken_or_kept (eps number) rule broken kept = broken
  broken_or_kept (choice f g) Choice (word, is, left, right) kept = kept word is left right
  broken_or_kept (choice f g) _ broken kept = broken
  broken_or_kept (split f g e) Split broken kept =
      broken.differ (kept broken.u broken.v broken.u' broken.v' broken.word
      broken.first.0 broken.first.1 broken.second.0 broken.second.1 broken.same)
  broken_or_kept (split f g e) _ broken kept = broken
  broken_or_kept (iter f n e) Iter broken kept =
      broken.differ (kept broken.us broken.vs broken.word broken.first broken.second broken.same)
  broken_or_kept (iter f n e) _ broken kept = broken
  broken_or_kept (combine f g e) rule broken kept =
      equal_or columns (rate_of f) (rate_of g) rule broken kept
  broken_or_kept (apply f e) rule broken kept = broken
  broken_or_kept (compose f g) rule broken kept =
      fed_or standing (derived_columns (type_of columns f)) (rate_of g) rule broken kept
  broken_or_kept (collect chosen sync rate f) rule broken kept =
      met_or columns (preds_of rate) rule broken kept

-- the first node that breaks a rule of words is refused in one way
pub one_refusal : (nodes : List Node) (why other : Option Refusal) → FirstBroken nodes why
    → FirstBroken nodes other → other ≡ why
one_refusal [] why other is is' = is' ∙ sym is
one_refusal (node ∷ nodes) why other (inl (rule, broken, is)) (inl (rule', broken', is')) =
    is' ∙ ap (λ (r : Rule). Some (refusal r node.place))
    (one_rule node.columns node.standing node.query rule rule' broken broken') ∙ sym is
one_refusal (node ∷ nodes) why other (inl (rule, broken, is)) (inr (kept, rest)) =
    absurd (broken_or_kept node.columns node.standing node.query rule broken kept)
one_refusal (node ∷ nodes) why other (inr (kept, rest)) (inl (rule, broken, is)) =
    absurd (broken_or_kept node.columns node.standing node.query rule broken kept)
one_refusal (node ∷ nodes) why other (inr (kept, rest)) (inr (kept', rest')) =
    one_refusal nodes why other rest rest'
