use Rattle.std.proofs.Common.{◌+◌, ◌*◌, max}
use Rattle.predicates.specs.declared.pred.Pred.{size-Pred}
use Rattle.predicates.proofs.+copy.Given as goal

-- how deep the predicate is; at one predicate those that call others stand above them
abbrev pub decreases-pred::Pred::try_copy : goal.decreases-pred::Pred::try_copy
decreases-pred::Pred::try_copy l = 3 * size-Pred l.self.now

abbrev pub decreases-pred::Pred::boxed_copy : goal.decreases-pred::Pred::boxed_copy
decreases-pred::Pred::boxed_copy l = 3 * size-Pred l.self.now + 1

abbrev pub decreases-copies::copy_of_and : goal.decreases-copies::copy_of_and
decreases-copies::copy_of_and l = 3 * max (size-Pred l.left.now) (size-Pred l.right.now) + 2

abbrev pub decreases-copies::copy_of_or : goal.decreases-copies::copy_of_or
decreases-copies::copy_of_or l = 3 * max (size-Pred l.left.now) (size-Pred l.right.now) + 2

abbrev pub decreases-copies::copy_of_not : goal.decreases-copies::copy_of_not
decreases-copies::copy_of_not l = 3 * size-Pred l.inner.now + 2
