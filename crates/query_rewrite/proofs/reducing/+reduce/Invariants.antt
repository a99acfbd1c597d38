use Rattle.std.proofs.Common.{◌≡◌, ◌+◌, ◌*◌, max, map, take}
use Rattle.expressions.specs.declared.expr.Expr.{size-Expr}
use Rattle.expressions.specs.Expressions.{plain_of}
use Rattle.query_rewrite.specs.Reducing.{reduced}
use Rattle.query_rewrite.proofs.reducing.+reduce.Given as goal

-- how deep the expression is; at one expression those that call others stand above them
abbrev pub decreases-reduced : goal.decreases-reduced
decreases-reduced l = 3 * size-Expr l.value.now

abbrev pub decreases-boxed_reduced : goal.decreases-boxed_reduced
decreases-boxed_reduced l = 3 * size-Expr l.value.now + 1

abbrev pub decreases-reduced_unary : goal.decreases-reduced_unary
decreases-reduced_unary l = 3 * size-Expr l.inner.now + 2

abbrev pub decreases-reduced_binary : goal.decreases-reduced_binary
decreases-reduced_binary l = 3 * max (size-Expr l.left.now) (size-Expr l.right.now) + 2

abbrev pub decreases-reduced_choice : goal.decreases-reduced_choice
decreases-reduced_choice l =
    3 * max (max (size-Expr l.left.now) (size-Expr l.right.now))
    (max (size-Expr l.met.now) (size-Expr l.other.now)) + 2

abbrev pub decreases-reduced_most : goal.decreases-reduced_most
decreases-reduced_most l = 3 * size-Expr l.first.now + 2

abbrev pub decreases-reduced_least : goal.decreases-reduced_least
decreases-reduced_least l = 3 * size-Expr l.first.now + 2

abbrev pub decreases-reduced_entry : goal.decreases-reduced_entry
decreases-reduced_entry l = 3 * size-Expr l.other.now + 2

abbrev pub decreases-reduced_record : goal.decreases-reduced_record
decreases-reduced_record l = 3 * goal.size-reduced_record l + 2

-- this many parts are reduced
abbrev pub invariant-reduced_record-parts : goal.invariant-reduced_record-parts
invariant-reduced_record-parts l =
    map plain_of l.made.items ≡ map (λ part. reduced (plain_of part)) (take l.part-index l.parts)
