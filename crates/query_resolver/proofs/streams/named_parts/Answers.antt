use Rattle.std.proofs.lemmas.Result.{err_from_is_err_and}
use Rattle.predicates.specs.Plain as predicates
use Rattle.query_syntax.specs.Plain.{plain_predicate, plain_rate}
use Rattle.query_resolver.proofs.Collecting.{key_refused, rate_refused, sync_refused}
use Rattle.query_resolver.proofs.streams.named_parts.Goals as goal

pub returns-in_err-key-clause-refused : goal.returns-in_err-key-clause-refused
returns-in_err-key-clause-refused c =
    let err = err_from_is_err_and c.from_residual.result c.from_residual.ensures.1 in
    rw (err.1, err.2)
    (λ nesting operand f is. key_refused nesting c.args.schema.now.columns
    c.args.written.now.key.now (plain_predicate c.args.written.now.sync.now)
    (plain_rate c.args.written.now.rate.now) f c.args.span operand is _
    c.in_err-key.ensures.refused)

pub returns-in_err-sync-clause-refused : goal.returns-in_err-sync-clause-refused
returns-in_err-sync-clause-refused c =
    let err = err_from_is_err_and c.from_residual-in_err-sync.result
    c.from_residual-in_err-sync.ensures.1 in
    rw (err.1, err.2)
    (λ nesting operand f is. sync_refused nesting c.args.schema.now.columns
    c.args.written.now.key.now (plain_predicate c.args.written.now.sync.now)
    (plain_rate c.args.written.now.rate.now) f c.args.span operand is c.in_ok-key.key
    c.in_ok-key.ensures.made _ c.in_err-sync.ensures.refused)

pub returns-in_err-rate-clause-refused : goal.returns-in_err-rate-clause-refused
returns-in_err-rate-clause-refused c =
    let err = err_from_is_err_and c.from_residual-in_err-rate.result
    c.from_residual-in_err-rate.ensures.1 in
    rw (err.1, err.2)
    (λ nesting operand f is. rate_refused nesting c.args.schema.now.columns
    c.args.written.now.key.now (plain_predicate c.args.written.now.sync.now)
    (plain_rate c.args.written.now.rate.now) f c.args.span operand is c.in_ok-key.key
    c.in_ok-key.ensures.made (predicates.plain_of c.in_ok-sync.sync) c.in_ok-sync.ensures.made _
    c.in_err-rate.ensures.refused)

pub returns-clause-made : goal.returns-clause-made
returns-clause-made c = record {
  keyed = c.in_ok-key.ensures.made;
  tested = c.in_ok-sync.ensures.made;
  rated = c.in_ok-rate.ensures.made;
}
