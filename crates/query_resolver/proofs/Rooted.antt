-- The place of a query as it is written is that of its root, and so is that of a query in memory.
use Rattle.std.proofs.Common.{◌≡◌, refl, sym, ap, ◌∙◌}
use Rattle.language_base.specs.declared.span.Span.{Span}
use Rattle.query_model.specs.declared.query.Query as memory
use Rattle.query_model.specs.declared.query.Shape.{Shape}
use Rattle.query_model.specs.declared.query.Shape.TheVariants.{Atom, Eps, Or', Split', Iter'}
use Rattle.query_model.specs.declared.query.Shape.TheVariants.{Combine', Apply', Compose', Collect'}
use Rattle.query_syntax.specs.Queries as q
use Rattle.query_syntax.specs.Queries.{Query}
use Rattle.query_syntax.specs.Spans.{query_span}
use Rattle.query_resolver.specs.Findings.{places_at, places_in}
use Rattle.query_resolver.specs.Nodes.{own_place, places_of}

root_written : (tree : Query) → own_place (places_of tree) ≡ query_span tree
root_written (q.name name) = refl
root_written (q.atom predicate value span) = refl
root_written (q.eps number span) = refl
root_written (q.or f g span) = refl
root_written (q.split f g value span) = refl
root_written (q.iter f first step span) = refl
root_written (q.combine f g value span) = refl
root_written (q.apply f value span) = refl
root_written (q.compose f g span) = refl
root_written (q.collect key sync rate f span) = refl

pub root_made : (shape : Shape) (span : Span) → own_place (places_at shape span) ≡ span
root_made (Atom pred value) span = refl
root_made (Eps number) span = refl
root_made (Or' p first a q second b) span = refl
root_made (Split' p first a q second b value) span = refl
root_made (Iter' p inner a number value) span = refl
root_made (Combine' p first a q second b value) span = refl
root_made (Apply' p inner a value) span = refl
root_made (Compose' p first a q second b) span = refl
root_made (Collect' key sync rate p inner a) span = refl

-- one that was made of the other has its place
pub root_span : (tree : Query) (query : memory.Query) → places_of tree ≡ places_in query
    → query_span tree ≡ query.span
root_span tree query same =
    sym (root_written tree) ∙ ap own_place same ∙ root_made query.shape query.span
