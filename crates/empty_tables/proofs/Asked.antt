-- The predicates of a query's stream can be asked.
use Rattle.std.proofs.Common.{◌≡◌, ◌∙◌, List, [], ◌++◌, sym, subst}
use Rattle.std.specs.List.{Contains}
use Rattle.std.proofs.lemmas.List.Elements.{Contains-append_left, Contains-append_right}
use Rattle.item_schema.specs.Layout.{Layout}
use Rattle.predicate_cells.specs.Cells.{Partition}
use Rattle.predicates.specs.Predicates.{Predicate}
use Rattle.rate_expr.specs.Rates as rate
use Rattle.rate_expr.specs.Rates.{Regex, preds_of}
use Rattle.query_model.specs.Members.{HaveSameMembers}
use Rattle.query_model.specs.Queries.{Qre, atom, eps, choice, split, iter, combine, apply, compose}
use Rattle.query_model.specs.Queries.{collect, plain_of}
use Rattle.query_model.specs.Rules.{IsClear, free}
use Rattle.query_model.specs.Sizes.{predicates_of}
use Rattle.query_model.specs.declared.query.Query.{Query}
use Rattle.empty_tables.specs.OwnItems.{AreAsked, AreAskedIn, CanBeAsked}
use Rattle.empty_tables.proofs.Keys.{first_member, later_member}

module _ (asked : List Predicate) where
  -- each of them is among those that can be asked
  abbrev Among : List Predicate → Type 0
  Among preds = (pred : Predicate) → Contains preds pred → Contains asked pred

  left_among : (one other : List Predicate) → Among (one ++ other) → Among one
  left_among one other among pred there =
      among pred (Contains-append_left one other pred there)

  right_among : (one other : List Predicate) → Among (one ++ other) → Among other
  right_among one other among pred there =
      among pred (Contains-append_right one other pred there)

  asked_in : (r : Regex) → Among (preds_of r) → AreAskedIn asked r
  asked_in rate.empty among = tt
  asked_in (rate.one pred) among = among pred (first_member pred [])
  asked_in (rate.sequence left right) among = (
    asked_in left (left_among (preds_of left) (preds_of right) among),
    asked_in right (right_among (preds_of left) (preds_of right) among),
  )
  asked_in (rate.choice left right) among = (
    asked_in left (left_among (preds_of left) (preds_of right) among),
    asked_in right (right_among (preds_of left) (preds_of right) among),
  )
  asked_in (rate.star inner) among = asked_in inner among

  pub are_asked : (query : Qre)
      → ((pred : Predicate) → Contains (predicates_of query) pred → Contains asked pred)
      → AreAsked asked query
  are_asked (atom pred expression) among = tt
  are_asked (eps number) among = tt
  are_asked (choice f g) among = (
    are_asked f (left_among (predicates_of f) (predicates_of g) among),
    are_asked g (right_among (predicates_of f) (predicates_of g) among),
  )
  are_asked (split f g expression) among = (
    are_asked f (left_among (predicates_of f) (predicates_of g) among),
    are_asked g (right_among (predicates_of f) (predicates_of g) among),
  )
  are_asked (iter f number expression) among = are_asked f among
  are_asked (combine f g expression) among = (
    are_asked f (left_among (predicates_of f) (predicates_of g) among),
    are_asked g (right_among (predicates_of f) (predicates_of g) among),
  )
  are_asked (apply f expression) among = are_asked f among
  are_asked (compose f g) among = are_asked f among
  are_asked (collect chosen sync r f) among = (
    among sync (first_member sync (preds_of r ++ predicates_of f)),
    asked_in r (left_among (preds_of r) (predicates_of f) (λ pred there.
        among pred (later_member sync pred (preds_of r ++ predicates_of f) there))),
  )

-- the cells of a checked query are those of predicates that its collects ask
pub can_be_asked : (cells : Partition) (schema layout : Layout) (first second main : Query)
    → cells.layout ≡ schema → schema ≡ layout
    → HaveSameMembers cells.preds (predicates_of (plain_of first.shape)) → first ≡ main
    → second ≡ main → IsClear free layout.columns (plain_of main.shape)
    → CanBeAsked cells (plain_of second.shape)
can_be_asked cells schema layout first second main same of members one other clear =
    let those : HaveSameMembers cells.preds (predicates_of (plain_of main.shape)) =
    subst (λ (q : Query). HaveSameMembers cells.preds (predicates_of (plain_of q.shape))) one
    members in
    subst (λ (q : Query). CanBeAsked cells (plain_of q.shape)) (sym other) (record {
      standing = free;
      clear = subst (λ (l : Layout). IsClear free l.columns (plain_of main.shape))
          (sym (same ∙ of)) clear;
      asked = are_asked cells.preds (plain_of main.shape)
          (λ pred there. (those pred).1 there);
    })
