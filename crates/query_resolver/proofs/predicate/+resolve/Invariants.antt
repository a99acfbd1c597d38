use Rattle.std.proofs.Common.{◌+◌, ◌*◌, max}
use Rattle.query_syntax.specs.declared.predicate.Predicate.{size-Predicate}
use Rattle.query_resolver.proofs.predicate.+resolve.Given as goal

abbrev pub decreases-pred_over : goal.decreases-pred_over
decreases-pred_over l = 3 * size-Predicate l.predicate.now

abbrev pub decreases-boxed_over : goal.decreases-boxed_over
decreases-boxed_over l = 3 * size-Predicate l.predicate.now + 1

abbrev pub decreases-joined_over : goal.decreases-joined_over
decreases-joined_over l = 3 * max (size-Predicate l.left.now) (size-Predicate l.right.now) + 2

abbrev pub decreases-negated_over : goal.decreases-negated_over
decreases-negated_over l = 3 * size-Predicate l.operand.now + 2
