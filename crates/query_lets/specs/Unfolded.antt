-- Statement. The main query after lets: each name of a let is replaced by that let's query, whose
-- own names are replaced.
use Rattle.std.specs.Prelude.{ℕ, List, [], ◌∷◌, Option, None, Some, if◌then◌else◌, unwrap_or}
use Rattle.std.specs.Str.{bytes_eq}
use Rattle.query_syntax.specs.Programs.{Let, Program}
use Rattle.query_syntax.specs.Queries as q
use Rattle.query_syntax.specs.Queries.{Query}

-- a name and the query that it stands for
pub record Binding : Type 0 where
  pub name : List ℕ
  pub query : Query

-- what a name stands for: the first of the bindings decides
abbrev pub meaning : List Binding → List ℕ → Option Query
meaning [] name = None
meaning (first ∷ bindings) name =
    if bytes_eq name first.name then Some first.query else meaning bindings name

-- the query with what its names stand for in their places
abbrev pub replaced : List Binding → Query → Query
replaced bindings (q.name name) = unwrap_or (meaning bindings name.bytes) (q.name name)
replaced bindings (q.atom predicate value span) = q.atom predicate value span
replaced bindings (q.eps number span) = q.eps number span
replaced bindings (q.or f g span) = q.or (replaced bindings f) (replaced bindings g) span
replaced bindings (q.split f g value span) =
    q.split (replaced bindings f) (replaced bindings g) value span
replaced bindings (q.iter f first step span) = q.iter (replaced bindings f) first step span
replaced bindings (q.combine f g value span) =
    q.combine (replaced bindings f) (replaced bindings g) value span
replaced bindings (q.apply f value span) = q.apply (replaced bindings f) value span
replaced bindings (q.compose f g span) = q.compose (replaced bindings f) (replaced bindings g) span
replaced bindings (q.collect key sync rate f span) =
    q.collect key sync rate (replaced bindings f) span

-- the bindings after lets, the latest first, where these stand before
abbrev pub bindings_after : List Binding → List Let → List Binding
bindings_after bindings [] = bindings
bindings_after bindings (one ∷ lets) = bindings_after
    ((record { name = one.name.bytes; query = replaced bindings one.query }) ∷ bindings) lets

-- the bindings of lets
abbrev pub bindings_of : List Let → List Binding
bindings_of lets = bindings_after [] lets

-- the main query after lets
abbrev pub unfolded : Program → Query
unfolded program = replaced (bindings_of program.lets) program.main.query
