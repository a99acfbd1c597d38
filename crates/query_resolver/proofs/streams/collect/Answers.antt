use Rattle.std.proofs.Common.{ap, refl}
use Rattle.std.proofs.lemmas.Result.{err_from_is_err_and}
use Rattle.predicates.specs.Plain as predicates
use Rattle.query_model.specs.Queries.{plain_of}
use Rattle.query_syntax.specs.Plain.{plain_predicate, plain_rate}
use Rattle.rate_expr.specs.Plain as rates
use Rattle.query_resolver.specs.Findings.{places_at}
use Rattle.query_resolver.specs.Nestings.{nesting_of}
use Rattle.query_resolver.specs.Resolutions.{columns_of}
use Rattle.query_resolver.proofs.Collecting.{collect_made}
use Rattle.query_resolver.proofs.streams.collect.Goals as goal

pub returns-in_err-parts-clause-refused : goal.returns-in_err-parts-clause-refused
returns-in_err-parts-clause-refused c =
    let err = err_from_is_err_and c.from_residual.result c.from_residual.ensures.1 in
    rw (err.1, err.2) (c.in_err-parts.ensures.refused c.args.operand refl)

pub returns-clause-made : goal.returns-clause-made
returns-clause-made c =
    let parts = c.in_ok-parts.parts in
    let named = c.in_ok-parts.ensures.named in
    λ f is. collect_made (nesting_of c.args.nesting) (columns_of c.args.items.now)
    c.args.written.now.key.now (plain_predicate c.args.written.now.sync.now)
    (plain_rate c.args.written.now.rate.now) f c.args.span c.args.operand
    is parts.key named.keyed (predicates.plain_of parts.sync) named.tested
    (rates.plain_of parts.rate) named.rated c.in_ok-parts.ensures.stands c.in_ok-parts.ensures.fit _
    (ap plain_of c.in_ok-new.ensures.shape_is) (ap places_at c.in_ok-new.ensures.shape_is)
    c.in_ok-new.ensures.span_is c.in_ok-new.ensures.type_is
