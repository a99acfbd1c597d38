use Rattle.std.proofs.lemmas.Result.{err_from_is_err_and}
use Rattle.query_syntax.specs.Plain.{plain_predicate, plain_rate}
use Rattle.query_resolver.specs.Nestings.{nesting_of}
use Rattle.query_resolver.proofs.streams.fitting_parts.Goals as goal

pub returns-in_err-parts-clause-refused : goal.returns-in_err-parts-clause-refused
returns-in_err-parts-clause-refused c =
    let err = err_from_is_err_and c.from_residual.result c.from_residual.ensures.1 in
    rw (err.1, err.2)
    (λ operand same. c.in_err-parts.ensures.refused (nesting_of c.args.nesting) operand)

pub returns-in-Err-clause-refused : goal.returns-in-Err-clause-refused
returns-in-Err-clause-refused c = λ operand same.
    c.in-Err.ensures.refused c.args.written.now.key.now
    (plain_predicate c.args.written.now.sync.now) (plain_rate c.args.written.now.rate.now) operand
    c.in_ok-parts.ensures.made same
