use Rattle.std.proofs.lemmas.Result.{err_from_is_err_and}
use Rattle.predicates.specs.Plain as predicates
use Rattle.query_syntax.specs.Plain.{plain_expression, plain_predicate}
use Rattle.query_resolver.proofs.Atoms.{test_refused, value_refused}
use Rattle.query_resolver.proofs.atom.named_atom.Goals as goal

pub returns-in_err-pred-clause-refused : goal.returns-in_err-pred-clause-refused
returns-in_err-pred-clause-refused c =
    let err = err_from_is_err_and c.from_residual.result c.from_residual.ensures.1 in
    rw (err.1, err.2)
    (λ nesting. test_refused nesting c.args.schema.now.columns
    (plain_predicate c.args.predicate.now) (plain_expression c.args.value.now) c.args.span _
    c.in_err-pred.ensures.refused)

pub returns-in_err-value-clause-refused : goal.returns-in_err-value-clause-refused
returns-in_err-value-clause-refused c =
    let err = err_from_is_err_and c.from_residual-in_err-value.result
    c.from_residual-in_err-value.ensures.1 in
    rw (err.1, err.2)
    (λ nesting. value_refused nesting c.args.schema.now.columns
    (plain_predicate c.args.predicate.now) (plain_expression c.args.value.now) c.args.span
    (predicates.plain_of c.in_ok-pred.pred) c.in_ok-pred.ensures.made _
    c.in_err-value.ensures.refused)

pub returns-clause-made : goal.returns-clause-made
returns-clause-made c = record {
  tested = c.in_ok-pred.ensures.made;
  named = c.in_ok-value.ensures.made;
  numbers = c.in_ok-value.ensures.numbers;
}
