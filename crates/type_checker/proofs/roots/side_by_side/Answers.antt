use Rattle.std.proofs.Common.{refl, subst, sym}
use Rattle.std.proofs.lemmas.Result.{err_from_is_err_and}
use Rattle.query_model.specs.Queries.{combine}
use Rattle.query_model.specs.Rates.{rate_of}
use Rattle.rate_expr.specs.FirstLastFollow.{AreSetsOf}
use Rattle.type_checker.proofs.Ruled.{broken_by, kept_by, on_cells}
use Rattle.type_checker.proofs.roots.side_by_side.Goals as goal

pub returns-in_err-keep-clause-refused : goal.returns-in_err-keep-clause-refused
returns-in_err-keep-clause-refused c =
    let err = err_from_is_err_and c.from_residual-in_err-keep.result
    c.from_residual-in_err-keep.ensures.1 in
    rw (err.1, err.2) (λ cells f g value are.
    broken_by cells.layout.columns (combine f g value) _
    (on_cells cells f g c.args.operands (combine f g value) _ are
    (λ standing. c.in_ok-rates_rule.ensures standing f g value are.left are.right))
    refl c.args.span _ c.in_err-keep.ensures.refused)

pub returns-clause-kept : goal.returns-clause-kept
returns-clause-kept c = λ cells f g value are.
    kept_by cells.layout.columns (combine f g value) _
    (on_cells cells f g c.args.operands (combine f g value) _ are
    (λ standing. c.in_ok-rates_rule.ensures standing f g value are.left are.right))
    _ c.in_ok-keep.ensures.kept
    (subst (λ sets. AreSetsOf sets (rate_of f)) (sym c.into_positions.ensures) are.left.sets)
