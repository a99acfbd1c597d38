use Rattle.std.proofs.Common.{ap, refl}
use Rattle.std.proofs.lemmas.Result.{err_from_is_err_and}
use Rattle.predicates.specs.Plain as predicates
use Rattle.query_model.specs.Queries.{plain_of}
use Rattle.query_model.specs.QueryTypes.{of_columns}
use Rattle.query_syntax.specs.Plain.{plain_expression, plain_predicate}
use Rattle.query_resolver.specs.Findings.{places_at}
use Rattle.query_resolver.specs.Resolutions.{columns_of}
use Rattle.expressions.specs.Expressions as values
use Rattle.query_resolver.proofs.Atoms.{atom_made}
use Rattle.query_resolver.proofs.atom.atom.Goals as goal

pub returns-in_err-pred-clause-refused : goal.returns-in_err-pred-clause-refused
returns-in_err-pred-clause-refused c =
    let err = err_from_is_err_and c.from_residual.result c.from_residual.ensures.1 in
    rw (err.1, err.2) c.in_err-pred.ensures.refused

pub returns-clause-made : goal.returns-clause-made
returns-clause-made c =
    let columns = columns_of c.args.items.now in
    let named = c.in_ok-pred.ensures.named in
    λ nesting. atom_made nesting columns (plain_predicate c.args.predicate.now)
    (plain_expression c.args.value.now) c.args.span
    (predicates.plain_of c.in_ok-pred.pred) named.tested
    (values.plain_of c.in_ok-pred.value) named.named c.in_ok-pred.ensures.fits named.numbers
    (of_columns columns) refl c.in_ok-pred.ty _ c.in_ok-pred.ensures.typed
    (ap plain_of c.in_ok-new.ensures.shape_is) (ap places_at c.in_ok-new.ensures.shape_is)
    c.in_ok-new.ensures.span_is c.in_ok-new.ensures.type_is
