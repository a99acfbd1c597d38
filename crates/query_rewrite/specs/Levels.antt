-- Statement. How many levels expressions, predicates and rates have as terms of a text. A text has
-- at most 64 levels, of which two stand above: that of a let or the main query, and that of a node.
use Rattle.std.specs.Prelude.{ℕ, ◌+◌, ◌≤◌, max}
use Rattle.expressions.specs.Expressions.{Expression, literal, read, unary, binary, choice, sum}
use Rattle.expressions.specs.Expressions.{count, most, least, entry, rec, part, Expressions, none}
use Rattle.expressions.specs.Expressions.{more}
use Rattle.predicates.specs.Predicates as test
use Rattle.predicates.specs.Predicates.{Predicate}
use Rattle.rate_expr.specs.Rates as rate
use Rattle.rate_expr.specs.Rates.{Regex}
use Rattle.query_model.specs.Queries as query
use Rattle.query_model.specs.Queries.{Qre}

-- the most that fit under a node of a let
abbrev pub max_levels : ℕ
max_levels = 62

abbrev mutual
  -- the levels of an expression: a comparison is a term of its own
  pub levels_of : Expression → ℕ
  levels_of (literal number) = 1
  levels_of (read name) = 1
  levels_of (unary op inner) = levels_of inner + 1
  levels_of (binary op first second) = max (levels_of first) (levels_of second) + 1
  levels_of (choice test first second met other) =
      max (max (levels_of first) (levels_of second) + 1) (max (levels_of met) (levels_of other)) + 1
  levels_of (sum name) = 2
  levels_of (count name) = 2
  levels_of (most name first) = levels_of first + 1
  levels_of (least name first) = levels_of first + 1
  levels_of (entry name key other) = levels_of other + 1
  levels_of (rec parts) = most_levels parts + 1
  levels_of (part name place) = 2

  -- the most levels of these
  pub most_levels : Expressions → ℕ
  most_levels none = 0
  most_levels (more first rest) = max (levels_of first) (most_levels rest)

-- the levels of a predicate
abbrev pub levels_of_test : Predicate → ℕ
levels_of_test test.any = 1
levels_of_test (test.conjunction left right) =
    max (levels_of_test left) (levels_of_test right) + 1
levels_of_test (test.disjunction left right) =
    max (levels_of_test left) (levels_of_test right) + 1
levels_of_test (test.negation inner) = levels_of_test inner + 1
levels_of_test _ = 2

-- the levels of a rate
abbrev pub levels_of_rate : Regex → ℕ
levels_of_rate rate.empty = 1
levels_of_rate (rate.one pred) = levels_of_test pred + 1
levels_of_rate (rate.sequence left right) = max (levels_of_rate left) (levels_of_rate right) + 1
levels_of_rate (rate.choice left right) = max (levels_of_rate left) (levels_of_rate right) + 1
levels_of_rate (rate.star inner) = levels_of_rate inner + 1

-- each expression, predicate and written rate of the query has few levels
abbrev pub HasFewLevels : Qre → Type 0
HasFewLevels (query.atom pred expression) =
    (levels_of_test pred ≤ max_levels) × (levels_of expression ≤ max_levels)
HasFewLevels (query.eps number) = Unit {0}
HasFewLevels (query.choice f g) = HasFewLevels f × HasFewLevels g
HasFewLevels (query.split f g expression) =
    HasFewLevels f × HasFewLevels g × (levels_of expression ≤ max_levels)
HasFewLevels (query.iter f number expression) = HasFewLevels f × (levels_of expression ≤ max_levels)
HasFewLevels (query.combine f g expression) =
    HasFewLevels f × HasFewLevels g × (levels_of expression ≤ max_levels)
HasFewLevels (query.apply f expression) = HasFewLevels f × (levels_of expression ≤ max_levels)
HasFewLevels (query.compose f g) = HasFewLevels f × HasFewLevels g
HasFewLevels (query.collect chosen sync rate f) =
    HasFewLevels f × (levels_of_test sync ≤ max_levels) × (levels_of_rate rate ≤ max_levels)
