-- Statement. The rule on reach, which is no part of what gives a query its meaning: at no node do
-- words lead to too many states.
use Rattle.std.specs.Prelude.{List}
use Rattle.item_schema.specs.declared.column.Column.{Column}
use Rattle.rate_expr.specs.Rates.{Regex}
use Rattle.query_model.specs.Queries.{Qre, atom, eps, choice, split, iter, combine, apply, compose}
use Rattle.query_model.specs.Queries.{collect}
use Rattle.query_model.specs.QueryTypes.{derived_columns, type_of}
use Rattle.query_model.specs.Rates.{rate_of}
use Rattle.query_model.specs.Rules.{Standing, free, bound}
use Rattle.type_checker.specs.WordRules.{ReachManyPairs, ReachManyStates}

-- the rate of a composition's right operand, which is checked only where the composition is bound
abbrev pub FeedsFew : Standing → List Column → Regex → Type 0
FeedsFew free columns r = Unit {0}
FeedsFew bound columns r = ReachManyStates columns r → ⊥

abbrev pub ReachesFew : Standing → List Column → Qre → Type 0
ReachesFew standing columns (atom pred expression) = Unit {0}
ReachesFew standing columns (eps number) = Unit {0}
ReachesFew standing columns (choice f g) = ReachesFew bound columns f × ReachesFew bound columns g
ReachesFew standing columns (split f g expression) =
    ReachesFew bound columns f × ReachesFew bound columns g
ReachesFew standing columns (iter f number expression) = ReachesFew bound columns f
ReachesFew standing columns (combine f g expression) =
    ReachesFew bound columns f × ReachesFew bound columns g
    × (ReachManyPairs columns (rate_of f) (rate_of g) → ⊥)
ReachesFew standing columns (apply f expression) = ReachesFew bound columns f
ReachesFew standing columns (compose f g) =
    ReachesFew standing columns f × ReachesFew standing (derived_columns (type_of columns f)) g
    × FeedsFew standing (derived_columns (type_of columns f)) (rate_of g)
ReachesFew standing columns (collect chosen sync rate f) = ReachesFew bound columns f
