-- The cells of the whole stream serve the nodes of a query that keeps the rules.
use Rattle.std.proofs.Common.{◌≡◌, ◌∙◌, List, [], ◌∷◌, ◌++◌, Option, None, Some, option_map, refl}
use Rattle.std.proofs.Common.{sym, subst}
use Rattle.std.specs.List.{AllByRecursion, Contains}
use Rattle.std.proofs.lemmas.List.Elements.{Contains-append_left, Contains-append_right}
use Rattle.std.proofs.lemmas.List.Folds.{list_all-append}
use Rattle.item_schema.specs.declared.column.Column.{Column}
use Rattle.predicate_cells.specs.Cells.{AllFit, Partition}
use Rattle.predicates.specs.Fits.{fits}
use Rattle.predicates.specs.Predicates.{Predicate}
use Rattle.rate_expr.specs.Rates.{preds_of}
use Rattle.query_model.specs.Queries.{Qre, atom, eps, choice, split, iter, combine, apply, compose}
use Rattle.query_model.specs.Queries.{collect}
use Rattle.query_model.specs.Rules.{CanBeMet, Standing, bound, HasNoCollect, IsClear}
use Rattle.query_model.specs.Sizes.{HasFewPositions, predicates_of}
use Rattle.eval_nodes.specs.Streams.{CanBeMade}
use Rattle.eval_nodes.proofs.Members.{first_member, later_member}

-- where no collect stands in the query a node can be made without cells
pub without_collect : (q : Qre) → HasNoCollect q → CanBeMade None q
without_collect (atom pred e) none = tt
without_collect (eps number) none = tt
without_collect (choice f g) none = (without_collect f none.0, without_collect g none.1)
without_collect (split f g e) none = (without_collect f none.0, without_collect g none.1)
without_collect (iter f number e) none = without_collect f none
without_collect (combine f g e) none = (without_collect f none.0, without_collect g none.1)
without_collect (apply f e) none = without_collect f none
without_collect (compose f g) none = (without_collect f none.0, without_collect g none.1)
without_collect (collect chosen sync rate f) none = absurd none

-- the predicates of a query that keeps the rules fit the columns
fit_both : (columns : List Column) (one other : List Predicate) → AllFit columns one
    → AllFit columns other → AllFit columns (one ++ other)
fit_both columns one other first second =
    list_all-append (fits columns) one other ∙ rw (first, second) refl

all_met : (columns : List Column) (preds : List Predicate) → AllByRecursion (CanBeMet columns) preds
    → AllFit columns preds
all_met columns [] met = refl
all_met columns (pred ∷ preds) met = let rest = all_met columns preds met.1 in
    let first = met.0.fit in rw (first, rest) refl

pub all_fit : (standing : Standing) (columns : List Column) (q : Qre) → IsClear standing columns q
    → AllFit columns (predicates_of q)
all_fit standing columns (atom pred e) clear = let first = clear.0.fit in rw first refl
all_fit standing columns (eps number) clear = refl
all_fit standing columns (choice f g) clear =
    fit_both columns (predicates_of f) (predicates_of g) (all_fit bound columns f clear.0)
    (all_fit bound columns g clear.1)
all_fit standing columns (split f g e) clear =
    fit_both columns (predicates_of f) (predicates_of g) (all_fit bound columns f clear.0)
    (all_fit bound columns g clear.1)
all_fit standing columns (iter f number e) clear = all_fit bound columns f clear.0
all_fit standing columns (combine f g e) clear =
    fit_both columns (predicates_of f) (predicates_of g) (all_fit bound columns f clear.0)
    (all_fit bound columns g clear.1)
all_fit standing columns (apply f e) clear = all_fit bound columns f clear.0
all_fit standing columns (compose f g) clear = all_fit standing columns f clear.0
all_fit standing columns (collect chosen sync rate f) clear =
    let of_sync = clear.4 in
    let words = fit_both columns (preds_of rate) (predicates_of f)
    (all_met columns (preds_of rate) clear.5) (all_fit bound columns f clear.0) in
    rw (of_sync, words) refl

-- the cells have the predicates of the query's stream
abbrev Has : Partition → List Predicate → Type 0
Has cells preds = (pred : Predicate) → Contains preds pred → Contains cells.preds pred

has_first : (cells : Partition) (one other : List Predicate)
    → Has cells (one ++ other) → Has cells one
has_first cells one other has pred there = has pred (Contains-append_left one other pred there)

has_second : (cells : Partition) (one other : List Predicate) → Has cells (one ++ other)
    → Has cells other
has_second cells one other has pred there = has pred (Contains-append_right one other pred there)

all_there : (cells : Partition) (preds : List Predicate) → Has cells preds
    → AllByRecursion (λ (pred : Predicate). Contains cells.preds pred) preds
all_there cells [] has = tt
all_there cells (pred ∷ preds) has = (
  has pred (first_member pred preds),
  all_there cells preds (λ other there. has other (later_member pred other preds there)),
)

-- so they serve it
pub served : (standing : Standing) (columns : List Column) (cells : Partition) (q : Qre)
    → IsClear standing columns q → HasFewPositions q → Has cells (predicates_of q)
    → CanBeMade (Some cells) q
served standing columns cells (atom pred e) clear few has = tt
served standing columns cells (eps number) clear few has = tt
served standing columns cells (choice f g) clear few has = (
  served bound columns cells f clear.0 few.0
      (has_first cells (predicates_of f) (predicates_of g) has),
  served bound columns cells g clear.1 few.1
      (has_second cells (predicates_of f) (predicates_of g) has),
)
served standing columns cells (split f g e) clear few has = (
  served bound columns cells f clear.0 few.0
      (has_first cells (predicates_of f) (predicates_of g) has),
  served bound columns cells g clear.1 few.1
      (has_second cells (predicates_of f) (predicates_of g) has),
)
served standing columns cells (iter f number e) clear few has =
    served bound columns cells f clear.0 few has
served standing columns cells (combine f g e) clear few has = (
  served bound columns cells f clear.0 few.0
      (has_first cells (predicates_of f) (predicates_of g) has),
  served bound columns cells g clear.1 few.1
      (has_second cells (predicates_of f) (predicates_of g) has),
)
served standing columns cells (apply f e) clear few has =
    served bound columns cells f clear.0 few has
served standing columns cells (compose f g) clear few has =
    (served standing columns cells f clear.0 few.0 has, without_collect g clear.2)
served standing columns cells (collect chosen sync rate f) clear few has = record {
  few = few.1;
  decided = all_there cells (preds_of rate) (has_first cells (preds_of rate) (predicates_of f)
      (λ pred there. has pred (later_member sync pred (preds_of rate ++ predicates_of f) there)));
}

-- what is said of cells, of a reference to them
pub seen_cells : {C : Type 0} (of : C → Partition) (P : Option Partition → Type 0) (x y : Option C)
    → x ≡ y → P (option_map of y) → P (option_map of x)
seen_cells {C} of P x y same is =
    subst (λ (cells : Option C). P (option_map of cells)) (sym same) is
