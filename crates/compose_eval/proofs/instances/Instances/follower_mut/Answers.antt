use Rattle.std.proofs.Common.{◌≡◌, ◌<◌, Some, length, slice_get, refl, sym, subst}
use Rattle.compose_eval.specs.Followers.{followers_of}
use Rattle.compose_eval.proofs.Kept.{IsKept-written}
use Rattle.compose_eval.proofs.Starts.{follower_read, lent}
use Rattle.compose_eval.proofs.instances.Instances.follower_mut.Goals as goal

pub invariant_of-self-lent : goal.invariant_of-self-lent
invariant_of-self-lent g c = λ w.
    IsKept-written _ _ _ _ _ _ c.index_mut.result.now w c.index_mut.ensures.value c.self.invariant

pub returns : goal.returns
returns g c =
    let inside = subst (λ seen. c.args.i < length seen.live) (sym c.self.view_is) c.requires in
    let read = follower_read _ c.args.i c.index_mut.result.now inside c.index_mut.ensures.value in (
      (
        refl,
        λ w. lent _ _ c.args.i c.index_mut.result.now w c.self.view_is c.index_mut.ensures.value,
      ),
      record {
        lends = tt;
        value = subst (λ seen. slice_get (followers_of seen.live) c.args.i
            ≡ Some c.index_mut.result.now.follower)
            c.self.view_is read;
      },
    )
