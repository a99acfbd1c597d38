use Rattle.std.proofs.Common.{◌<◌, ◌∙◌, length, sym, ap, subst}
use Rattle.split_eval.specs.Entries.{entry_at}
use Rattle.split_eval.proofs.Kept.{IsKept-put}
use Rattle.split_eval.proofs.pending.Pending.put.Goals as goal

pub invariant_of-self : goal.invariant_of-self
invariant_of-self g c =
    let spare : length c.self.inside.entries.items < c.self.inside.room
    = subst (λ seen. length seen.entries < seen.room) (sym c.self.view_is) c.requires.room in
    let fresh = ap (λ seen. entry_at seen.entries c.args.inner) c.self.view_is ∙ c.requires.fresh in
    IsKept-put _ _
    (record { inner = c.args.inner; outer = c.args.outer; value = c.args.value }) _ _ _
    c.push_reserved.ensures.items c.self.invariant spare fresh c.push_reserved.ensures.capacity
