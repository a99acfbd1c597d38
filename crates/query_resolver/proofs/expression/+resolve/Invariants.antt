use Rattle.std.proofs.Common.{◌+◌, ◌*◌, max}
use Rattle.query_syntax.specs.declared.expression.Expression.{size-Expression}
use Rattle.query_resolver.specs.Scopes.{plain_scope}
use Rattle.query_resolver.proofs.Parts.{AreResolved}
use Rattle.query_resolver.proofs.expression.+resolve.Given as goal

abbrev pub decreases-expression_over : goal.decreases-expression_over
decreases-expression_over l = 4 * size-Expression l.expression.now

abbrev pub decreases-boxed_over : goal.decreases-boxed_over
decreases-boxed_over l = 4 * size-Expression l.expression.now + 1

abbrev pub decreases-both_over : goal.decreases-both_over
decreases-both_over l = 4 * max (size-Expression l.left.now) (size-Expression l.right.now) + 2

abbrev pub decreases-binary_over : goal.decreases-binary_over
decreases-binary_over l = 4 * max (size-Expression l.left.now) (size-Expression l.right.now) + 3

abbrev pub decreases-choice_over : goal.decreases-choice_over
decreases-choice_over l =
    4 * max (max (size-Expression l.test.now.left.value) (size-Expression l.test.now.right.value))
    (max (size-Expression l.holds.now) (size-Expression l.fails.now)) + 3

abbrev pub decreases-extremum_over : goal.decreases-extremum_over
decreases-extremum_over l = 4 * size-Expression l.first.now + 2

abbrev pub decreases-entry_over : goal.decreases-entry_over
decreases-entry_over l = 4 * size-Expression l.absent.now + 2

abbrev pub decreases-unary_over : goal.decreases-unary_over
decreases-unary_over l = 4 * size-Expression l.operand.now + 2

abbrev pub decreases-record_over : goal.decreases-record_over
decreases-record_over l = 4 * goal.size-record_over l + 3

abbrev pub decreases-all_over : goal.decreases-all_over
decreases-all_over l = 4 * goal.size-all_over l + 2

-- this many parts are resolved
abbrev pub invariant-all_over-parts : goal.invariant-all_over-parts
invariant-all_over-parts l = AreResolved (plain_scope l.scope) l.parts l.made.items l.part-index
