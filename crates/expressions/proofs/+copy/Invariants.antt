use Rattle.std.proofs.Common.{◌≡◌, ◌+◌, ◌*◌, max, map, take}
use Rattle.expressions.specs.declared.expr.Expr.{size-Expr}
use Rattle.expressions.specs.Expressions.{plain_of}
use Rattle.expressions.proofs.+copy.Given as goal

-- how deep the expression is; at one expression those that call others stand above them
abbrev pub decreases-expr::Expr::try_copy : goal.decreases-expr::Expr::try_copy
decreases-expr::Expr::try_copy l = 3 * size-Expr l.self.now

abbrev pub decreases-expr::Expr::boxed_copy : goal.decreases-expr::Expr::boxed_copy
decreases-expr::Expr::boxed_copy l = 3 * size-Expr l.self.now + 1

abbrev pub decreases-copies::copy_of_unary : goal.decreases-copies::copy_of_unary
decreases-copies::copy_of_unary l = 3 * size-Expr l.inner.now + 2

abbrev pub decreases-copies::copy_of_binary : goal.decreases-copies::copy_of_binary
decreases-copies::copy_of_binary l = 3 * max (size-Expr l.left.now) (size-Expr l.right.now) + 2

abbrev pub decreases-copies::copy_of_choice : goal.decreases-copies::copy_of_choice
decreases-copies::copy_of_choice l =
    3 * max (max (size-Expr l.left.now) (size-Expr l.right.now))
    (max (size-Expr l.met.now) (size-Expr l.other.now)) + 2

abbrev pub decreases-copies::copy_of_most : goal.decreases-copies::copy_of_most
decreases-copies::copy_of_most l = 3 * size-Expr l.first.now + 2

abbrev pub decreases-copies::copy_of_least : goal.decreases-copies::copy_of_least
decreases-copies::copy_of_least l = 3 * size-Expr l.first.now + 2

abbrev pub decreases-copies::copy_of_entry : goal.decreases-copies::copy_of_entry
decreases-copies::copy_of_entry l = 3 * size-Expr l.other.now + 2

abbrev pub decreases-copies::copy_of_record : goal.decreases-copies::copy_of_record
decreases-copies::copy_of_record l = 3 * goal.size-copies::copy_of_record l + 2

-- this many parts are copied
abbrev pub invariant-copies::copy_of_record-parts : goal.invariant-copies::copy_of_record-parts
invariant-copies::copy_of_record-parts l =
    map plain_of l.copies.items ≡ map plain_of (take l.part-index l.parts)
