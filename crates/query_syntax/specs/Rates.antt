-- Statement. Written rates without where they lie in memory.
use Rattle.language_base.specs.declared.span.Span.{Span}
use Rattle.query_syntax.specs.declared.operator.Join.{Join}
use Rattle.query_syntax.specs.Predicates.{Predicate}

-- a written rate
pub data Rate : Type 0 where
  eps : Span → Rate
  item : Predicate → Span → Rate
  joined : Join → Rate → Rate → Span → Rate
  star : Rate → Span → Rate
