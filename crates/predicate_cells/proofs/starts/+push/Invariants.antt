use Rattle.std.proofs.Common.{◌+◌, ◌*◌, max}
use Rattle.predicates.specs.declared.pred.Pred.{size-Pred}
use Rattle.predicate_cells.proofs.starts.+push.Given as goal

-- how deep the predicate is; those of two predicates stand above them
abbrev pub decreases-push_starts : goal.decreases-push_starts
decreases-push_starts l = 2 * size-Pred l.pred.now

abbrev pub decreases-push_starts_of_both : goal.decreases-push_starts_of_both
decreases-push_starts_of_both l = 2 * max (size-Pred l.left.now) (size-Pred l.right.now) + 1
