-- Statement. The places of trees.
use Rattle.language_base.specs.declared.span.Span.{Span}
use Rattle.query_syntax.specs.Expressions as e
use Rattle.query_syntax.specs.Expressions.{Expression}
use Rattle.query_syntax.specs.Predicates as p
use Rattle.query_syntax.specs.Predicates.{Predicate}
use Rattle.query_syntax.specs.Queries as q
use Rattle.query_syntax.specs.Queries.{Query}
use Rattle.query_syntax.specs.Rates as r
use Rattle.query_syntax.specs.Rates.{Rate}

-- the place of an expression
abbrev pub expression_span : Expression → Span
expression_span (e.number n) = n.span
expression_span (e.name n) = n.span
expression_span (e.unary op a span) = span
expression_span (e.binary op a b span) = span
expression_span (e.choice op a b at c d span) = span
expression_span (e.summary op table span) = span
expression_span (e.extremum op table a span) = span
expression_span (e.get table key a span) = span
expression_span (e.rec parts span) = span
expression_span (e.part whole index span) = span

-- the place of a predicate
abbrev pub predicate_span : Predicate → Span
predicate_span (p.any span) = span
predicate_span (p.equality op column l span) = span
predicate_span (p.order op column bound span) = span
predicate_span (p.between column low high span) = span
predicate_span (p.is_num column span) = span
predicate_span (p.joined op a b span) = span
predicate_span (p.negated a span) = span

-- the place of a rate
abbrev pub rate_span : Rate → Span
rate_span (r.eps span) = span
rate_span (r.item f span) = span
rate_span (r.joined op a b span) = span
rate_span (r.star a span) = span

-- the place of a query
abbrev pub query_span : Query → Span
query_span (q.name n) = n.span
query_span (q.atom f v span) = span
query_span (q.eps n span) = span
query_span (q.or a b span) = span
query_span (q.split a b v span) = span
query_span (q.iter a n v span) = span
query_span (q.combine a b v span) = span
query_span (q.apply a v span) = span
query_span (q.compose a b span) = span
query_span (q.collect key f t a span) = span
