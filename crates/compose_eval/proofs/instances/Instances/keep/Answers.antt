use Rattle.std.proofs.Common.{◌<◌, ◌∙◌, false, length, refl, ap, subst, arith}
use Rattle.compose_eval.proofs.Parting.{live_turn, next, next_inside, none_parted, retire_turn}
use Rattle.compose_eval.proofs.Parting.{retired_kept, same_read}
use Rattle.compose_eval.proofs.instances.Instances.keep.Goals as goal
use Rattle.compose_eval.proofs.instances.Instances.keep.Goals.{then-live, else-live}

pub instances-init : goal.instances-init
instances-init g c =
    let live = ap (λ seen. seen.live) c.self.view_is in (
      none_parted _ _ _ _ _ _ live (ap (λ seen. seen.idle) c.self.view_is),
      c.self.invariant,
      ap (λ seen. seen.room) c.self.view_is,
      c.len-end.ensures ∙ c.self.inside.live.ok.0 ∙ ap (λ xs. length xs) live,
      refl,
    )

pub instances-preserved : goal.instances-preserved
instances-preserved g c =
    let before = c.instances.invariant in
    let test = c.instances-test.true in
    let end = before.3 in
    let below : c.instances.counter < length c.args.self.now.live = omega (arith, test, end) in
    elim c.if-live.branch [
      | then-live w ↦
          let at = next _ _ _ _ _ _ _ _ c.index.result.now before.0 below c.index.ensures in
          rw (w.place-is, w.self-inside-is) (
            live_turn _ _ _ _ _ _ _ _ c.index.result.now at w.if-live.ensures,
            before.1,
            before.2,
            before.3,
            before.4,
          )
      | else-live w ↦
          let gone = w.remove-instance.result in
          let inside = next_inside _ _ _ _ _ _ _ _ before.0 below in
          let same = same_read _ _ c.index.result.now gone inside c.index.ensures
          w.remove-instance.ensures.value in
          let at = next _ _ _ _ _ _ _ _ gone before.0 below w.remove-instance.ensures.value in
          rw (w.place-is, w.self-inside-is) (
            retire_turn _ _ _ _ _ _ _ _ _ _ gone at
                (subst (λ x. goal.F-post g c.args.live x.outer false) same w.if-live.ensures)
                w.remove-instance.ensures.items w.push_reserved.ensures.items,
            retired_kept _ _ _ _ _ _ _ _ _ _ gone _ _ _ _ _ at before.1
                w.remove-instance.ensures.items w.push_reserved.ensures.items
                w.remove-instance.ensures.capacity w.push_reserved.ensures.capacity,
            before.2,
            before.3,
            before.4,
          )
    ]
