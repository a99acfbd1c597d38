use Rattle.std.proofs.Common.{subst, sym}
use Rattle.query_model.specs.Queries.{choice}
use Rattle.query_model.specs.Rates.{rate_of}
use Rattle.rate_expr.specs.FirstLastFollow.{AreSetsOf}
use Rattle.type_checker.proofs.Blaming.{choice_blamed}
use Rattle.type_checker.proofs.Ruled.{kept_by, on_cells}
use Rattle.type_checker.proofs.roots.choice.Goals as goal

pub returns-in_ok-blame-in-Some-clause-refused : goal.returns-in_ok-blame-in-Some-clause-refused
returns-in_ok-blame-in-Some-clause-refused c = λ cells f g are.
    choice_blamed c.in_ok-blame-in-Some.field-0 _ c.args.span
    c.in_ok-blame-in-Some.ensures.refusal _ c.in-Some.is
    cells f g c.args.operands are _ c.in_ok-new-in-Some.ensures.ok
    c.in_ok-blame-in-Some.ensures.ambiguity (on_cells cells f g c.args.operands (choice f g) _ are
    (λ standing. c.in_ok-rule.ensures standing f g are.left are.right))

pub returns-in_ok-or-in-None-clause-kept : goal.returns-in_ok-or-in-None-clause-kept
returns-in_ok-or-in-None-clause-kept c = λ cells f g are.
    kept_by cells.layout.columns (choice f g) _
    (on_cells cells f g c.args.operands (choice f g) _ are
    (λ standing. c.in_ok-rule.ensures standing f g are.left are.right))
    _ c.in-None.is
    (c.in_ok-or-in-None.ensures (rate_of f) (rate_of g)
    (subst (λ sets. AreSetsOf sets (rate_of f)) (sym c.into_positions-left.ensures) are.left.sets)
    (subst (λ sets. AreSetsOf sets (rate_of g)) (sym c.into_positions.ensures) are.right.sets))
