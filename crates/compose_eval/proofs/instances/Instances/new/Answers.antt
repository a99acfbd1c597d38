use Rattle.compose_eval.proofs.Kept.{IsKept-none}
use Rattle.compose_eval.proofs.instances.Instances.new.Goals as goal

pub invariant_of-result : goal.invariant_of-result
invariant_of-result g c =
    IsKept-none _ _ _ _ _ c.in_ok-live.ensures.items c.in_ok-idle.ensures.items
    c.in_ok-live.ensures.exact c.in_ok-idle.ensures.exact
