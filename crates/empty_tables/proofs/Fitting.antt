-- The predicates of a query that keeps the rules fit the columns.
use Rattle.std.proofs.Common.{◌∙◌, List, [], ◌∷◌, ◌++◌, refl}
use Rattle.std.specs.List.{AllByRecursion}
use Rattle.std.proofs.lemmas.List.Folds.{list_all-append}
use Rattle.item_schema.specs.declared.column.Column.{Column}
use Rattle.predicate_cells.specs.Cells.{AllFit}
use Rattle.predicates.specs.Fits.{fits}
use Rattle.predicates.specs.Predicates.{Predicate}
use Rattle.rate_expr.specs.Rates.{preds_of}
use Rattle.query_model.specs.Queries.{Qre, atom, eps, choice, split, iter, combine, apply, compose}
use Rattle.query_model.specs.Queries.{collect}
use Rattle.query_model.specs.Rules.{CanBeMet, Standing, bound, IsClear}
use Rattle.query_model.specs.Sizes.{predicates_of}

fit_both : (columns : List Column) (one other : List Predicate) → AllFit columns one
    → AllFit columns other → AllFit columns (one ++ other)
fit_both columns one other first second =
    list_all-append (fits columns) one other ∙ rw (first, second) refl

all_met : (columns : List Column) (preds : List Predicate) → AllByRecursion (CanBeMet columns) preds
    → AllFit columns preds
all_met columns [] met = refl
all_met columns (pred ∷ preds) met = let rest = all_met columns preds met.1 in
    let first = met.0.fit in rw (first, rest) refl

pub all_fit : (standing : Standing) (columns : List Column) (q : Qre) → IsClear standing columns q
    → AllFit columns (predicates_of q)
all_fit standing columns (atom pred e) clear = let first = clear.0.fit in rw first refl
all_fit standing columns (eps number) clear = refl
all_fit standing columns (choice f g) clear =
    fit_both columns (predicates_of f) (predicates_of g) (all_fit bound columns f clear.0)
    (all_fit bound columns g clear.1)
all_fit standing columns (split f g e) clear =
    fit_both columns (predicates_of f) (predicates_of g) (all_fit bound columns f clear.0)
    (all_fit bound columns g clear.1)
all_fit standing columns (iter f number e) clear = all_fit bound columns f clear.0
all_fit standing columns (combine f g e) clear =
    fit_both columns (predicates_of f) (predicates_of g) (all_fit bound columns f clear.0)
    (all_fit bound columns g clear.1)
all_fit standing columns (apply f e) clear = all_fit bound columns f clear.0
all_fit standing columns (compose f g) clear = all_fit standing columns f clear.0
all_fit standing columns (collect chosen sync rate f) clear =
    let of_sync = clear.4 in
    let words = fit_both columns (preds_of rate) (predicates_of f)
    (all_met columns (preds_of rate) clear.5) (all_fit bound columns f clear.0) in
    rw (of_sync, words) refl
