use Rattle.std.proofs.Common.{ap}
use Rattle.std.proofs.lemmas.Result.{err_from_is_err_and}
use Rattle.query_model.specs.Queries.{plain_of}
use Rattle.query_syntax.specs.Plain.{plain_expression}
use Rattle.expressions.specs.Shown.{shown_types}
use Rattle.query_resolver.specs.Findings.{places_at}
use Rattle.query_resolver.proofs.Shaping.{combine_refused, combine_made}
use Rattle.query_resolver.proofs.shapes.combine.Goals as goal

pub returns-in_err-value-clause-refused : goal.returns-in_err-value-clause-refused
returns-in_err-value-clause-refused c =
    let err = err_from_is_err_and c.from_residual.result c.from_residual.ensures.1 in
    rw (err.1, err.2)
    (λ nesting columns f g is_left is_right.
    combine_refused nesting columns f g c.args.left c.args.right is_left is_right c.args.span
    (plain_expression c.args.value.now) (shown_types c.of_two-types.result) c.of_two-types.ensures _
    c.in_err-value.ensures.refused)

pub returns-clause-made : goal.returns-clause-made
returns-clause-made c =
    λ nesting columns f g is_left is_right.
    combine_made nesting columns f g c.args.left c.args.right is_left is_right c.args.span
    (plain_expression c.args.value.now) (shown_types c.of_two-types.result) c.of_two-types.ensures
    c.in_ok-value.value c.in_ok-value.ty c.in_ok-value.ensures.made _
    (ap places_at c.in_ok-new.ensures.shape_is) c.in_ok-new.ensures.span_is
    c.in_ok-new.ensures.type_is (ap plain_of c.in_ok-new.ensures.shape_is)
