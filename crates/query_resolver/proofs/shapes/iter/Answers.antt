use Rattle.std.proofs.Common.{◌∙◌, ap, rules}
use Rattle.std.proofs.lemmas.Result.{err_from_is_err_and}
use Rattle.query_model.specs.Queries.{plain_of}
use Rattle.query_syntax.specs.Plain.{plain_expression}
use Rattle.expressions.specs.Shown.{shown_types}
use Rattle.query_resolver.specs.Findings.{places_at}
use Rattle.query_resolver.proofs.Shaping.{iter_refused, iter_made}
use Rattle.query_resolver.proofs.shapes.iter.Goals as goal

pub returns-in_err-step-clause-refused : goal.returns-in_err-step-clause-refused
returns-in_err-step-clause-refused c =
    let err = err_from_is_err_and c.from_residual.result c.from_residual.ensures.1 in
    rw (err.1, err.2)
    (λ nesting columns f is.
    iter_refused nesting columns f c.args.operand is (plain_expression c.args.step.now) c.args.span
    (shown_types c.of_two-types.result) c.args.first.now c.of_two-types.ensures _
    c.in_err-step.ensures.refused)

pub returns-clause-made : goal.returns-clause-made
returns-clause-made c =
    λ nesting columns f is.
    iter_made nesting columns f c.args.operand is (plain_expression c.args.step.now) c.args.span
    (shown_types c.of_two-types.result) c.args.first.now c.of_two-types.ensures c.in_ok-step.step _
    c.in_ok-step.ensures.made
    (search rules)
    (ap plain_of c.in_ok-new.ensures.shape_is ∙ search rules)
    (ap places_at c.in_ok-new.ensures.shape_is) c.in_ok-new.ensures.span_is
    c.in_ok-new.ensures.type_is
