-- From how a program is judged to the verdict on its text, with the place of its main query.
use Rattle.std.proofs.Common.{◌≡◌, ℕ, List, refl, sym, ap, ◌∙◌}
use Rattle.language_base.specs.declared.span.Span.{Span}
use Rattle.query_lets.specs.Unfolded.{unfolded}
use Rattle.query_model.specs.Checked.{CheckedQuery}
use Rattle.query_model.specs.Monitors.{monitor_of}
use Rattle.query_model.specs.declared.query.Shape.{Shape}
use Rattle.query_model.specs.declared.query.Shape.TheVariants.{Atom, Eps, Or', Split', Iter'}
use Rattle.query_model.specs.declared.query.Shape.TheVariants.{Combine', Apply', Compose', Collect'}
use Rattle.query_parser.specs.Reading.{IsFileOf}
use Rattle.query_resolver.specs.Findings.{places_at, places_in}
use Rattle.query_resolver.specs.Nodes.{own_place, places_of}
use Rattle.query_syntax.specs.Files.{program_terms}
use Rattle.query_syntax.specs.Programs.{Program}
use Rattle.query_syntax.specs.Queries as q
use Rattle.query_syntax.specs.Queries.{Query}
use Rattle.query_syntax.specs.Spans.{query_span}
use Rattle.type_checker.specs.Judged.{IsJudged, accepted}
use Rattle.shard_run.specs.Verdicts.{IsAccepted}

-- the place of a query in memory
span_at : (shape : Shape) (span : Span) → own_place (places_at shape span) ≡ span
span_at (Atom pred value) span = refl
span_at (Eps number) span = refl
span_at (Or' p first a q second b) span = refl
span_at (Split' p first a q second b value) span = refl
span_at (Iter' p inner a number value) span = refl
span_at (Combine' p first a q second b value) span = refl
span_at (Apply' p inner a value) span = refl
span_at (Compose' p first a q second b) span = refl
span_at (Collect' columns sync rate p inner a) span = refl

-- and of one that is written
span_of : (query : Query) → own_place (places_of query) ≡ query_span query
span_of (q.name name) = refl
span_of (q.atom predicate value span) = refl
span_of (q.eps number span) = refl
span_of (q.or f g span) = refl
span_of (q.split f g value span) = refl
span_of (q.iter f first step span) = refl
span_of (q.combine f g value span) = refl
span_of (q.apply f value span) = refl
span_of (q.compose f g span) = refl
span_of (q.collect key sync rate f span) = refl

-- the query that is accepted stands where it is written
pub accepts : (text : List ℕ) (program : Program) (on : CheckedQuery)
    → IsFileOf text (program_terms program) → IsJudged program (accepted (monitor_of on))
    → places_in on.main ≡ places_of (unfolded program)
    → IsAccepted text (monitor_of on) on.main.span
accepts text program on file is places = record {
  program = program;
  written = file;
  judged = is;
  placed = sym (span_at on.main.shape on.main.span) ∙ ap own_place places
      ∙ span_of (unfolded program);
}
