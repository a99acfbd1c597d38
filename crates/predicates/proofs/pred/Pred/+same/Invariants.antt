use Rattle.std.proofs.Common.{◌+◌, ◌*◌, max}
use Rattle.predicates.specs.declared.pred.Pred.{size-Pred}
use Rattle.predicates.proofs.pred.Pred.+same.Given as goal

-- how deep the first predicate is; those that are given its parts stand above them
abbrev pub decreases-is_same : goal.decreases-is_same
decreases-is_same l = 2 * size-Pred l.self.now

abbrev pub decreases-is_and : goal.decreases-is_and
decreases-is_and l = 2 * max (size-Pred l.first.now) (size-Pred l.second.now) + 1

abbrev pub decreases-is_or : goal.decreases-is_or
decreases-is_or l = 2 * max (size-Pred l.first.now) (size-Pred l.second.now) + 1

abbrev pub decreases-is_not : goal.decreases-is_not
decreases-is_not l = 2 * size-Pred l.inner.now + 1
