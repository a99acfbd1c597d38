-- For the prover. The names in a set, and the first name of a query that is not among some.
use Rattle.std.specs.Prelude.{◌≡◌, ℕ, List, Option, None, Some, if◌then◌else◌}
use Rattle.std.specs.HashSet.{HashSet, contains_by}
use Rattle.std.specs.Borrow.{Bor}
use Rattle.std.specs.Str.{bytes_eq}
use Rattle.language_base.specs.declared.span.Span.{Span}
use Rattle.query_syntax.specs.Queries as q
use Rattle.query_syntax.specs.Queries.{Query}
use Rattle.query_lets.specs.Words.{is_known}

-- the set has these names and no others
abbrev pub Holds : {S : Type 0} → HashSet (Bor (List ℕ)) S → List (List ℕ) → Type 0
Holds set known = (name : List ℕ) → contains_by (λ k. bytes_eq name k.now) set ≡ is_known known name

-- the first place, if there is one, or else the second
abbrev pub first_of : Option Span → Option Span → Option Span
first_of (Some span) other = Some span
first_of None other = other

-- the place of the first name of a query that is none of these
abbrev pub first_unknown : List (List ℕ) → Query → Option Span
first_unknown known (q.name name) = if is_known known name.bytes then None else Some name.span
first_unknown known (q.atom predicate value span) = None
first_unknown known (q.eps number span) = None
first_unknown known (q.or f g span) = first_of (first_unknown known f) (first_unknown known g)
first_unknown known (q.split f g value span) =
    first_of (first_unknown known f) (first_unknown known g)
first_unknown known (q.iter f first step span) = first_unknown known f
first_unknown known (q.combine f g value span) =
    first_of (first_unknown known f) (first_unknown known g)
first_unknown known (q.apply f value span) = first_unknown known f
first_unknown known (q.compose f g span) = first_of (first_unknown known f) (first_unknown known g)
first_unknown known (q.collect key sync rate f span) = first_unknown known f
