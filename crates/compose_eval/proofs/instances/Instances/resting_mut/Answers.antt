use Rattle.compose_eval.proofs.Kept.{IsKept-rested}
use Rattle.compose_eval.proofs.instances.Instances.resting_mut.Goals as goal

pub invariant_of-self-lent : goal.invariant_of-self-lent
invariant_of-self-lent g c = λ w. IsKept-rested _ _ _ _ _ _ w c.self.invariant
