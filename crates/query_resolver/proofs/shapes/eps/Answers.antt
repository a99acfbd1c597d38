use Rattle.std.proofs.Common.{◌∙◌, ap, rules}
use Rattle.query_model.specs.Queries.{plain_of}
use Rattle.query_resolver.specs.Findings.{places_at}
use Rattle.query_resolver.proofs.Shaping.{eps_made}
use Rattle.query_resolver.proofs.shapes.eps.Goals as goal

pub returns-clause-made : goal.returns-clause-made
returns-clause-made c = λ nesting columns.
    eps_made nesting columns c.args.number.now c.args.span _ (search rules)
    (ap plain_of c.in_ok-new.ensures.shape_is ∙ search rules)
    (ap places_at c.in_ok-new.ensures.shape_is) c.in_ok-new.ensures.span_is
    c.in_ok-new.ensures.type_is
