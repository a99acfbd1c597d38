use Rattle.std.proofs.Common.{◌≡◌, ◌<◌, Some, length, slice_get, refl, sym, subst}
use Rattle.map_collect.specs.Tracks.{keys_of}
use Rattle.map_collect.proofs.Written.{keys_read, lent, AreTracks-written}
use Rattle.map_collect.proofs.tracks.Tracks.keys_mut.Goals as goal

pub invariant_of-self-lent : goal.invariant_of-self-lent
invariant_of-self-lent g c = λ w.
    AreTracks-written _ _ _ c.index_mut.result.now w c.index_mut.ensures.value c.self.invariant

pub returns : goal.returns
returns g c =
    let inside = subst (λ seen. c.args.i < length seen.tracks) (sym c.self.view_is) c.requires in
    let read = keys_read _ c.args.i c.index_mut.result.now inside c.index_mut.ensures.value in (
      (
        refl,
        λ w. lent _ _ c.args.i c.index_mut.result.now w c.self.view_is c.index_mut.ensures.value,
      ),
      record {
        lends = tt;
        value = subst
            (λ seen. slice_get (keys_of seen.tracks) c.args.i ≡ Some c.index_mut.result.now.keys)
            c.self.view_is read;
      },
    )
