use Rattle.std.proofs.Common.{inl, inr}
use Rattle.std.proofs.lemmas.Result.{err_from_is_err_and}
use Rattle.query_resolver.proofs.measurement.cells_within.Goals as goal

pub returns-in_err-keep_limits-clause-refused : goal.returns-in_err-keep_limits-clause-refused
returns-in_err-keep_limits-clause-refused c =
    let err = err_from_is_err_and c.from_residual.result c.from_residual.ensures.1 in
    rw (err.1, err.2) (inl c.in_err-keep_limits.ensures.refused)

pub returns-in_err-cells-clause-refused : goal.returns-in_err-cells-clause-refused
returns-in_err-cells-clause-refused c =
    let err = err_from_is_err_and c.from_residual-in_err-cells.result
    c.from_residual-in_err-cells.ensures.1 in
    rw (err.1, err.2)
    (inr (c.in_ok-keep_limits.ensures.limited, inl c.in_err-cells.ensures.refused))

pub returns-in_err-keep_values-clause-refused : goal.returns-in_err-keep_values-clause-refused
returns-in_err-keep_values-clause-refused c =
    let err = err_from_is_err_and c.from_residual-in_err-keep_values.result
    c.from_residual-in_err-keep_values.ensures.1 in
    rw (err.1, err.2)
    (inr (
      c.in_ok-keep_limits.ensures.limited,
      inr (c.in_ok-cells.ensures.few, c.in_err-keep_values.ensures.refused),
    ))
