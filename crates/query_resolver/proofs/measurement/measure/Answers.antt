use Rattle.std.proofs.lemmas.Result.{err_from_is_err_and}
use Rattle.query_syntax.specs.Plain.{plain_program}
use Rattle.query_resolver.proofs.Measuring.{beyond_refused, columns_right, count_refused}
use Rattle.query_resolver.proofs.Measuring.{measured_by}
use Rattle.query_resolver.proofs.Measuring.{names_refused}
use Rattle.query_resolver.proofs.measurement.measure.Goals as goal

pub returns-in_err-keep_nodes-clause-refused : goal.returns-in_err-keep_nodes-clause-refused
returns-in_err-keep_nodes-clause-refused c =
    let err = err_from_is_err_and c.from_residual.result c.from_residual.ensures.1 in
    rw (err.1, err.2)
    (count_refused (plain_program c.args.program.now) _ c.in_err-keep_nodes.ensures.refused)

pub schema_of-requires-clause-distinct : goal.schema_of-requires-clause-distinct
schema_of-requires-clause-distinct c =
    columns_right (plain_program c.args.program.now) c.in_ok-keep_nodes.ensures.counted.right

pub returns-in_err-query-clause-refused : goal.returns-in_err-query-clause-refused
returns-in_err-query-clause-refused c =
    let err = err_from_is_err_and c.from_residual-in_err-query.result
    c.from_residual-in_err-query.ensures.1 in
    rw (err.1, err.2)
    (names_refused (plain_program c.args.program.now) c.in_ok-keep_nodes.ensures.counted
    c.in_ok-schema.schema c.in_ok-schema.ensures _
    c.in_err-query.ensures.refused)

pub returns-in_err-cells-clause-refused : goal.returns-in_err-cells-clause-refused
returns-in_err-cells-clause-refused c =
    let err = err_from_is_err_and c.from_residual-in_err-cells.result
    c.from_residual-in_err-cells.ensures.1 in
    rw (err.1, err.2)
    (beyond_refused (plain_program c.args.program.now) c.in_ok-keep_nodes.ensures.counted
    c.in_ok-schema.schema c.in_ok-schema.ensures c.in_ok-query.query.value
    c.in_ok-query.ensures.named _ (rw c.deref.ensures at c.in_err-cells.ensures.refused))

pub returns-clause-measured : goal.returns-clause-measured
returns-clause-measured c =
    measured_by (plain_program c.args.program.now) _ c.in_ok-keep_nodes.ensures.counted
    c.in_ok-schema.ensures c.in_ok-query.ensures.named
    (rw c.deref.ensures at c.in_ok-cells.ensures.limited) c.in_ok-cells.ensures.layout
    (rw c.deref.ensures at c.in_ok-cells.ensures.few)
    (rw c.deref.ensures at c.in_ok-cells.ensures.members)
    (rw c.deref.ensures at c.in_ok-cells.ensures.values)
