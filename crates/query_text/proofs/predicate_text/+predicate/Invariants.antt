use Rattle.std.proofs.Common.{◌+◌, ◌*◌, max}
use Rattle.predicates.specs.declared.pred.Pred.{size-Pred}
use Rattle.query_text.proofs.predicate_text.+predicate.Given as goal

-- how deep the predicate is
abbrev pub decreases-write_predicate : goal.decreases-write_predicate
decreases-write_predicate l = 2 * size-Pred l.pred.now

abbrev pub decreases-write_joined : goal.decreases-write_joined
decreases-write_joined l = 2 * max (size-Pred l.left.now) (size-Pred l.right.now) + 1

abbrev pub decreases-write_negated : goal.decreases-write_negated
decreases-write_negated l = 2 * size-Pred l.inner.now + 1
