-- For the prover. The form of a query as it is written.
use Rattle.query_syntax.specs.Queries as q

-- a node of two operands on one stream
abbrev pub IsPair : q.Query → Type 0
IsPair (q.or f g span) = Unit {0}
IsPair (q.split f g value span) = Unit {0}
IsPair (q.combine f g value span) = Unit {0}
IsPair _ = ⊥

-- an iteration
abbrev pub IsIter : q.Query → Type 0
IsIter (q.iter f first step span) = Unit {0}
IsIter _ = ⊥

-- an expression over the value of a query
abbrev pub IsApply : q.Query → Type 0
IsApply (q.apply f value span) = Unit {0}
IsApply _ = ⊥

-- a composition
abbrev pub IsCompose : q.Query → Type 0
IsCompose (q.compose f g span) = Unit {0}
IsCompose _ = ⊥

-- a collection
abbrev pub IsCollect : q.Query → Type 0
IsCollect (q.collect key sync rate f span) = Unit {0}
IsCollect _ = ⊥
