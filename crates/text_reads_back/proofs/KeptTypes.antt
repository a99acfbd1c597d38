-- A query that keeps the rules keeps its types.
use Rattle.std.proofs.Common.{◌≡◌, true, List, [], ◌∷◌, refl}
use Rattle.std.specs.List.{AllByRecursion, list_all}
use Rattle.std.proofs.lemmas.Bool.{and_from}
use Rattle.item_schema.specs.declared.column.Column.{Column}
use Rattle.predicates.specs.Fits.{fits}
use Rattle.predicates.specs.Predicates.{Predicate}
use Rattle.query_model.specs.Queries.{Qre, atom, eps, choice, split, iter, combine, apply, compose}
use Rattle.query_model.specs.Queries.{collect}
use Rattle.query_model.specs.QueryTypes.{derived_columns, type_of}
use Rattle.query_model.specs.Rules.{CanBeMet, IsClear, Standing, bound}
use Rattle.query_resolver.specs.Findings.{KeepsTypes}
use Rattle.rate_expr.specs.Rates.{preds_of}

-- predicates that can be met fit
all_fit : (columns : List Column) (preds : List Predicate) → AllByRecursion (CanBeMet columns) preds
    → list_all (fits columns) preds ≡ true
all_fit columns [] met = refl
all_fit columns (pred ∷ preds) met =
    and_from (fits columns pred) (list_all (fits columns) preds) met.0.fit
    (all_fit columns preds met.1)

pub types_kept : (standing : Standing) (columns : List Column) (query : Qre)
    → IsClear standing columns query → KeepsTypes columns query
types_kept standing columns (atom pred e) clear = (clear.0.fit, clear.1)
types_kept standing columns (eps number) clear = clear
types_kept standing columns (choice f g) clear =
    (types_kept bound columns f clear.0, types_kept bound columns g clear.1, clear.2)
types_kept standing columns (split f g e) clear =
    (types_kept bound columns f clear.0, types_kept bound columns g clear.1, clear.2)
types_kept standing columns (iter f number e) clear =
    (types_kept bound columns f clear.0, clear.1, clear.2)
types_kept standing columns (combine f g e) clear =
    (types_kept bound columns f clear.0, types_kept bound columns g clear.1, clear.2)
types_kept standing columns (apply f e) clear = (types_kept bound columns f clear.0, clear.1)
types_kept standing columns (compose f g) clear = (
  types_kept standing columns f clear.0,
  types_kept standing (derived_columns (type_of columns f)) g clear.1,
  clear.2,
)
types_kept standing columns (collect chosen sync rate f) clear = (
  types_kept bound columns f clear.0,
  clear.1,
  clear.2,
  clear.3,
  clear.4,
  all_fit columns (preds_of rate) clear.5,
)
