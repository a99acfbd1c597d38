use Rattle.std.proofs.Common.{◌∙◌, [], ◌∷◌, None, ap, arith, length, refl, subst, sym}
use Rattle.std.specs.List.{AllByRecursion}
use Rattle.std.proofs.lemmas.List.{length-append}
use Rattle.query_model.specs.Bounds.{slots_of}
use Rattle.query_model.specs.Queries.{plain_of}
use Rattle.eval_nodes.specs.declared.node.State.TheViews.{roll-Progress}
use Rattle.eval_nodes.specs.Counts.{stored_in}
use Rattle.eval_nodes.specs.Plain.{seen_of}
use Rattle.eval_nodes.specs.Represents.{KeepsFew}
use Rattle.eval_nodes.specs.Runners.{IsSoundOf}
use Rattle.eval_nodes.proofs.Instances.{all_joined}
use Rattle.eval_nodes.proofs.MadeFed.{fresh_few}
use Rattle.restored_nodes.proofs.Room.{can_be_made}
use Rattle.restored_nodes.proofs.runners.rest_in_other_places.Goals as goal

pub new_node-requires-clause-cells : goal.new_node-requires-clause-cells
new_node-requires-clause-cells c =
    can_be_made None (plain_of c.args.query.now.shape) c.requires.query.cells

pub rest-requires : goal.rest-requires
rest-requires c =
    let before = c.idle.invariant in
    let count = before.2 in
    let room = before.1 in
    let some = c.idle-test.true in
    let end = c.room-end.ensures in
    omega (arith, count, room, some, end)

pub idle-preserved : goal.idle-preserved
idle-preserved c =
    let before = c.idle.invariant in
    let q = plain_of c.args.query.now.shape in
    let one = roll-Progress (record { node = c.in_ok-node.node; position = 0; answer = None }) in
    let pushed = c.rest.ensures.idle in
    let more = ap length pushed ∙ length-append c.idle.held.idle (one ∷ []) in
    let count = before.2 in
    let live = ap length c.rest.ensures.live in (
      c.rest.ensures.live ∙ before.0,
      c.rest.ensures.room ∙ before.1,
      omega (arith, more, count, live),
      λ columns. subst (AllByRecursion (IsSoundOf seen_of columns q)) (sym pushed)
          (all_joined (IsSoundOf seen_of columns q) c.idle.held.idle (one ∷ [])
          (before.3 columns)
          (record { node = c.in_ok-node.ensures.sound columns tt; answer = tt }, tt)),
      subst (AllByRecursion (KeepsFew seen_of (stored_in seen_of q) (slots_of q))) (sym pushed)
          (all_joined (KeepsFew seen_of (stored_in seen_of q) (slots_of q)) c.idle.held.idle
          (one ∷ []) before.4 (fresh_few q one (c.in_ok-node.ensures.word [] tt) refl, tt)),
    )
