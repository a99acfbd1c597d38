use Rattle.std.proofs.Common.{◌<◌, ◌+◌, ◌∙◌, length, sym, ap, subst}
use Rattle.compose_eval.specs.Followers.{instance_at}
use Rattle.compose_eval.proofs.Kept.{IsKept-put}
use Rattle.compose_eval.proofs.instances.Instances.put.Goals as goal

pub invariant_of-self : goal.invariant_of-self
invariant_of-self g c =
    let spare : length c.self.inside.live.items + length c.self.inside.idle.items
    < c.self.inside.room
    = subst (λ seen. length seen.live + length seen.idle < seen.room) (sym c.self.view_is)
    c.requires.room in
    let fresh = ap (λ seen. instance_at seen.live c.args.outer) c.self.view_is ∙ c.requires.fresh in
    IsKept-put _ _ _ (record { outer = c.args.outer; follower = c.args.follower }) _ _ _ _
    c.push_reserved.ensures.items c.self.invariant spare fresh c.push_reserved.ensures.capacity
