-- Statement. Predicates without where they lie in memory.
use Rattle.language_base.specs.declared.span.Span.{Span}
use Rattle.query_syntax.specs.declared.leaf.Literal.{Literal}
use Rattle.query_syntax.specs.declared.leaf.Name.{Name}
use Rattle.query_syntax.specs.declared.leaf.Number.{Number}
use Rattle.query_syntax.specs.declared.operator.Connective.{Connective}
use Rattle.query_syntax.specs.declared.operator.Equality.{Equality}
use Rattle.query_syntax.specs.declared.operator.Order.{Order}

-- a predicate on items
pub data Predicate : Type 0 where
  any : Span → Predicate
  equality : Equality → Name → Literal → Span → Predicate
  order : Order → Name → Number → Span → Predicate
  between : Name → Number → Number → Span → Predicate
  is_num : Name → Span → Predicate
  joined : Connective → Predicate → Predicate → Span → Predicate
  negated : Predicate → Span → Predicate
