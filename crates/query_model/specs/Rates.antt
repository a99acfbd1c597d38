-- Statement. The rate of a query: the words on which it can have a value.
use Rattle.rate_expr.specs.Rates as rate
use Rattle.rate_expr.specs.Rates.{Regex}
use Rattle.query_model.specs.Queries.{Qre, atom, eps, choice, split, iter, combine, apply, compose}
use Rattle.query_model.specs.Queries.{collect}

abbrev pub rate_of : Qre → Regex
rate_of (atom pred expression) = rate.one pred
rate_of (eps number) = rate.empty
rate_of (choice f g) = rate.choice (rate_of f) (rate_of g)
rate_of (split f g expression) = rate.sequence (rate_of f) (rate_of g)
rate_of (iter f number expression) = rate.star (rate_of f)
rate_of (combine f g expression) = rate_of f
rate_of (apply f expression) = rate_of f
rate_of (compose f g) = rate_of f
rate_of (collect chosen sync rate f) = rate
