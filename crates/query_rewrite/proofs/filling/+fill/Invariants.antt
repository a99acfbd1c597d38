use Rattle.std.proofs.Common.{◌≡◌, ◌+◌, ◌*◌, max, map, take}
use Rattle.expressions.specs.declared.expr.Expr.{size-Expr}
use Rattle.expressions.specs.Expressions.{plain_of}
use Rattle.query_rewrite.specs.Filling.{filled}
use Rattle.query_rewrite.proofs.filling.+fill.Given as goal

-- how deep the expression is; at one expression those that call others stand above them
abbrev pub decreases-filled : goal.decreases-filled
decreases-filled l = 3 * size-Expr l.outer.now

abbrev pub decreases-boxed_filled : goal.decreases-boxed_filled
decreases-boxed_filled l = 3 * size-Expr l.outer.now + 1

abbrev pub decreases-filled_unary : goal.decreases-filled_unary
decreases-filled_unary l = 3 * size-Expr l.first.now + 2

abbrev pub decreases-filled_binary : goal.decreases-filled_binary
decreases-filled_binary l = 3 * max (size-Expr l.first.now) (size-Expr l.second.now) + 2

abbrev pub decreases-filled_choice : goal.decreases-filled_choice
decreases-filled_choice l =
    3 * max (max (size-Expr l.first.now) (size-Expr l.second.now))
    (max (size-Expr l.met.now) (size-Expr l.other.now)) + 2

abbrev pub decreases-filled_most : goal.decreases-filled_most
decreases-filled_most l = 3 * size-Expr l.first.now + 2

abbrev pub decreases-filled_least : goal.decreases-filled_least
decreases-filled_least l = 3 * size-Expr l.first.now + 2

abbrev pub decreases-filled_entry : goal.decreases-filled_entry
decreases-filled_entry l = 3 * size-Expr l.other.now + 2

abbrev pub decreases-filled_record : goal.decreases-filled_record
decreases-filled_record l = 3 * goal.size-filled_record l + 2

-- this many parts are filled
abbrev pub invariant-filled_record-parts : goal.invariant-filled_record-parts
invariant-filled_record-parts l =
    map plain_of l.made.items
    ≡ map (λ part. filled (plain_of l.inner) (plain_of part)) (take l.part-index l.parts)
