use Rattle.std.proofs.Common.{◌+◌, ◌*◌, max}
use Rattle.predicates.specs.declared.pred.Pred.{size-Pred}
use Rattle.predicate_cells.proofs.mask.+truths.Given as goal

-- how deep the predicate is; those of two predicates stand above them
abbrev pub decreases-truths_of : goal.decreases-truths_of
decreases-truths_of l = 2 * size-Pred l.pred.now

abbrev pub decreases-truths_of_both : goal.decreases-truths_of_both
decreases-truths_of_both l = 2 * max (size-Pred l.left.now) (size-Pred l.right.now) + 1

abbrev pub decreases-truths_of_either : goal.decreases-truths_of_either
decreases-truths_of_either l = 2 * max (size-Pred l.left.now) (size-Pred l.right.now) + 1
