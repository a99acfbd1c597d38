-- Statement. How many nodes a query has.
use Rattle.std.specs.Prelude.{ℕ, ◌+◌}
use Rattle.query_syntax.specs.Queries as q
use Rattle.query_syntax.specs.Queries.{Query}

-- the nodes of a query as it is written, where a name is one
abbrev pub nodes_of : Query → ℕ
nodes_of (q.name name) = 1
nodes_of (q.atom predicate value span) = 1
nodes_of (q.eps number span) = 1
nodes_of (q.or f g span) = nodes_of f + nodes_of g + 1
nodes_of (q.split f g value span) = nodes_of f + nodes_of g + 1
nodes_of (q.iter f first step span) = nodes_of f + 1
nodes_of (q.combine f g value span) = nodes_of f + nodes_of g + 1
nodes_of (q.apply f value span) = nodes_of f + 1
nodes_of (q.compose f g span) = nodes_of f + nodes_of g + 1
nodes_of (q.collect key sync rate f span) = nodes_of f + 1
