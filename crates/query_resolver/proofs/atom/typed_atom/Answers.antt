use Rattle.std.proofs.lemmas.Result.{err_from_is_err_and}
use Rattle.query_syntax.specs.Plain.{plain_expression, plain_predicate}
use Rattle.query_resolver.proofs.atom.typed_atom.Goals as goal

pub returns-in_err-pred-clause-refused : goal.returns-in_err-pred-clause-refused
returns-in_err-pred-clause-refused c =
    let err = err_from_is_err_and c.from_residual.result c.from_residual.ensures.1 in
    rw (err.1, err.2) c.in_err-pred.ensures.refused

pub returns-in-Err-clause-refused : goal.returns-in-Err-clause-refused
returns-in-Err-clause-refused c = λ nesting.
    c.in-Err.ensures.refused nesting (plain_predicate c.args.predicate.now)
    (plain_expression c.args.value.now) c.in_ok-pred.ensures.made
