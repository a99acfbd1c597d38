use Rattle.std.proofs.Common.{◌+◌, ◌*◌, max}
use Rattle.predicates.specs.declared.pred.Pred.{size-Pred}
use Rattle.predicates.proofs.truth.+holds.Given as goal

-- how deep the predicate is; those of two predicates stand above them
abbrev pub decreases-holds_in : goal.decreases-holds_in
decreases-holds_in g l = 2 * size-Pred l.pred.now

abbrev pub decreases-both_hold : goal.decreases-both_hold
decreases-both_hold g l = 2 * max (size-Pred l.left.now) (size-Pred l.right.now) + 1

abbrev pub decreases-either_holds : goal.decreases-either_holds
decreases-either_holds g l = 2 * max (size-Pred l.left.now) (size-Pred l.right.now) + 1
