use Rattle.std.proofs.Common.{ap}
use Rattle.std.proofs.lemmas.Result.{IfOk-weaker}
use Rattle.query_model.specs.Queries.{plain_of}
use Rattle.query_resolver.specs.Findings.{places_at}
use Rattle.query_resolver.proofs.Composing.{compose_made}
use Rattle.query_resolver.proofs.streams.compose.Goals as goal

pub returns : goal.returns
returns c =
    IfOk-weaker c.new.result _ _ (λ made is nesting columns f g is_left is_right.
    compose_made nesting columns f g c.args.span c.args.left is_left c.args.right is_right made
    (ap plain_of is.shape_is) (ap places_at is.shape_is) is.span_is is.type_is) c.new.ensures
