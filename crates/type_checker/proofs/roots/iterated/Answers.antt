use Rattle.std.proofs.Common.{subst, sym}
use Rattle.query_model.specs.Queries.{iter}
use Rattle.query_model.specs.Rates.{rate_of}
use Rattle.rate_expr.specs.FirstLastFollow.{AreSetsOf}
use Rattle.type_checker.proofs.Blaming.{iter_blamed}
use Rattle.type_checker.proofs.Ruled.{kept_by}
use Rattle.type_checker.proofs.roots.iterated.Goals as goal

pub returns-in_ok-blame-in-Some-clause-refused : goal.returns-in_ok-blame-in-Some-clause-refused
returns-in_ok-blame-in-Some-clause-refused c = λ f number step is.
    iter_blamed c.in_ok-blame-in-Some.field-0 _ c.args.span
    c.in_ok-blame-in-Some.ensures.refusal _ c.in-Some.is
    f number step c.args.operand is _ c.in_ok-new-in-Some.ensures.ok
    c.in_ok-blame-in-Some.ensures.ambiguity
    (λ standing. c.in_ok-rule.ensures standing f number step is)

pub returns-in-None-clause-kept : goal.returns-in-None-clause-kept
returns-in-None-clause-kept c = λ f number step is.
    kept_by c.args.operand.cells.layout.columns (iter f number step) _
    (λ standing. c.in_ok-rule.ensures standing f number step is) _ c.in-None.is
    (c.star.ensures (rate_of f)
    (subst (λ sets. AreSetsOf sets (rate_of f)) (sym c.into_positions.ensures) is.sets))
