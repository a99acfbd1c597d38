use Rattle.std.proofs.Common.{◌+◌, ◌*◌, max}
use Rattle.expressions.specs.declared.expr.Expr.{size-Expr}
use Rattle.expressions.proofs.evaluator.+scalar.Given as goal

-- how deep the expression is; those that look at parts of one stand above them
abbrev pub decreases-scalar : goal.decreases-scalar
decreases-scalar l = 2 * size-Expr l.expr.now

abbrev pub decreases-chosen : goal.decreases-chosen
decreases-chosen l =
    2 * max (max (size-Expr l.left.now) (size-Expr l.right.now))
    (max (size-Expr l.met.now) (size-Expr l.other.now)) + 1

abbrev pub decreases-joined : goal.decreases-joined
decreases-joined l = 2 * max (size-Expr l.left.now) (size-Expr l.right.now) + 1

abbrev pub decreases-extremum : goal.decreases-extremum
decreases-extremum l = 2 * size-Expr l.first.now + 1

abbrev pub decreases-scalar_under : goal.decreases-scalar_under
decreases-scalar_under l = 2 * size-Expr l.other.now + 1
