-- A query has as many nodes as places, as it is written and in memory.
use Rattle.std.proofs.Common.{◌≡◌, ℕ, ◌+◌, refl, arith}
use Rattle.language_base.specs.declared.span.Span.{Span}
use Rattle.query_lets.specs.Sizes as trees
use Rattle.query_model.specs.Bounds.{nodes_of}
use Rattle.query_model.specs.Queries.{plain_of}
use Rattle.query_model.specs.declared.query.Shape.{Shape}
use Rattle.query_model.specs.declared.query.Shape.TheVariants.{Atom, Eps, Or', Split', Iter'}
use Rattle.query_model.specs.declared.query.Shape.TheVariants.{Combine', Apply', Compose', Collect'}
use Rattle.query_syntax.specs.Queries as q
use Rattle.query_syntax.specs.Queries.{Query}
use Rattle.query_resolver.specs.Findings.{places_at}
use Rattle.query_resolver.specs.Nodes.{Places, alone, places_of, with_one, with_two}

-- how many places there are
abbrev pub count_of : Places → ℕ
count_of (alone span) = 1
count_of (with_one first span) = count_of first + 1
count_of (with_two first second span) = count_of first + count_of second + 1

pub count_written : (tree : Query) → trees.nodes_of tree ≡ count_of (places_of tree)
count_written (q.name name) = refl
count_written (q.atom predicate value span) = refl
count_written (q.eps number span) = refl
count_written (q.or f g span) = omega (arith, count_written f, count_written g)
count_written (q.split f g value span) = omega (arith, count_written f, count_written g)
count_written (q.iter f first step span) = omega (arith, count_written f)
count_written (q.combine f g value span) = omega (arith, count_written f, count_written g)
count_written (q.apply f value span) = omega (arith, count_written f)
count_written (q.compose f g span) = omega (arith, count_written f, count_written g)
count_written (q.collect key sync rate f span) = omega (arith, count_written f)

pub count_made : (shape : Shape) (span : Span)
    → nodes_of (plain_of shape) ≡ count_of (places_at shape span)
count_made (Atom pred value) span = refl
count_made (Eps number) span = refl
count_made (Or' p first a q second b) span = omega (arith, count_made first a, count_made second b)
count_made (Split' p first a q second b value) span =
    omega (arith, count_made first a, count_made second b)
count_made (Iter' p inner a number value) span = omega (arith, count_made inner a)
count_made (Combine' p first a q second b value) span =
    omega (arith, count_made first a, count_made second b)
count_made (Apply' p inner a value) span = omega (arith, count_made inner a)
count_made (Compose' p first a q second b) span =
    omega (arith, count_made first a, count_made second b)
count_made (Collect' key sync rate p inner a) span = omega (arith, count_made inner a)
