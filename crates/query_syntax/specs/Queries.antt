-- Statement. Queries without where they lie in memory.
use Rattle.language_base.specs.declared.span.Span.{Span}
use Rattle.query_syntax.specs.declared.key.Key.{Key}
use Rattle.query_syntax.specs.declared.leaf.Name.{Name}
use Rattle.query_syntax.specs.declared.leaf.Number.{Number}
use Rattle.query_syntax.specs.Expressions.{Expression}
use Rattle.query_syntax.specs.Predicates.{Predicate}
use Rattle.query_syntax.specs.Rates.{Rate}

-- a query
pub data Query : Type 0 where
  name : Name → Query
  atom : Predicate → Expression → Span → Query
  eps : Number → Span → Query
  or : Query → Query → Span → Query
  split : Query → Query → Expression → Span → Query
  iter : Query → Number → Expression → Span → Query
  combine : Query → Query → Expression → Span → Query
  apply : Query → Expression → Span → Query
  compose : Query → Query → Span → Query
  collect : Key → Predicate → Rate → Query → Span → Query
