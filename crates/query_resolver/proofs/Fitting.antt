-- The predicates of a query whose types are kept fit the columns.
use Rattle.std.proofs.Common.{List, ◌++◌, refl, ◌∙◌}
use Rattle.std.proofs.lemmas.List.Folds.{list_all-append}
use Rattle.item_schema.specs.declared.column.Column.{Column}
use Rattle.predicate_cells.specs.Cells.{AllFit}
use Rattle.predicates.specs.Fits.{fits}
use Rattle.predicates.specs.Predicates.{Predicate}
use Rattle.query_model.specs.Queries.{Qre, atom, eps, choice, split, iter, combine, apply, compose}
use Rattle.query_model.specs.Queries.{collect}
use Rattle.query_model.specs.Sizes.{predicates_of}
use Rattle.rate_expr.specs.Rates.{preds_of}
use Rattle.query_resolver.specs.Findings.{KeepsTypes}

fit_both : (columns : List Column) (one other : List Predicate) → AllFit columns one
    → AllFit columns other → AllFit columns (one ++ other)
fit_both columns one other first second =
    list_all-append (fits columns) one other ∙ rw (first, second) refl

pub all_fit : (columns : List Column) (query : Qre) → KeepsTypes columns query
    → AllFit columns (predicates_of query)
all_fit columns (atom pred expression) fit = rw fit.0 refl
all_fit columns (eps number) fit = refl
all_fit columns (choice f g) fit =
    fit_both columns (predicates_of f) (predicates_of g) (all_fit columns f fit.0)
    (all_fit columns g fit.1)
all_fit columns (split f g expression) fit =
    fit_both columns (predicates_of f) (predicates_of g) (all_fit columns f fit.0)
    (all_fit columns g fit.1)
all_fit columns (iter f number expression) fit = all_fit columns f fit.0
all_fit columns (combine f g expression) fit =
    fit_both columns (predicates_of f) (predicates_of g) (all_fit columns f fit.0)
    (all_fit columns g fit.1)
all_fit columns (apply f expression) fit = all_fit columns f fit.0
all_fit columns (compose f g) fit = all_fit columns f fit.0
all_fit columns (collect chosen sync rate f) fit =
    let words = fit_both columns (preds_of rate) (predicates_of f) fit.5
    (all_fit columns f fit.0) in
    rw (fit.4, words) refl
