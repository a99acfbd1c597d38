use Rattle.std.proofs.Common.{◌≤◌, ◌∙◌, [], ◌∷◌, None, ap, arith, length, refl, subst, sym}
use Rattle.std.specs.List.{AllByRecursion}
use Rattle.std.proofs.lemmas.List.{length-append}
use Rattle.std.proofs.lemmas.Option.{none-some}
use Rattle.value_ops.specs.declared.value.Value.{Value}
use Rattle.expressions.specs.Expressions as values
use Rattle.query_model.specs.declared.query.Shape.{Shape}
use Rattle.query_model.specs.Bounds.{inner_of, slots_of}
use Rattle.query_model.specs.Queries.{apply, choice, combine, compose, iter, plain_of, split}
use Rattle.query_model.specs.Sizes.{max_slots}
use Rattle.split_eval.specs.Entries.{Contents}
use Rattle.eval_nodes.specs.declared.node.State.TheViews.{out-State, roll-Progress, roll-State}
use Rattle.eval_nodes.specs.Counts.{stored_in}
use Rattle.eval_nodes.specs.Runners.{IsSoundOf}
use Rattle.eval_nodes.specs.Holdings.{iter_held, split_held}
use Rattle.eval_nodes.specs.Plain.{holding_of, seen_of}
use Rattle.eval_nodes.specs.Represents.{KeepsFew}
use Rattle.eval_nodes.proofs.Same.{same_query}
use Rattle.eval_nodes.proofs.HeldRunners.{fed_is}
use Rattle.eval_nodes.proofs.MadeFed.{fresh_few, made_soundly_as, new_compose, new_compose_sound}
use Rattle.eval_nodes.proofs.MadeFed.{runners_fit}
use Rattle.eval_nodes.proofs.Instances.{all_joined}
use Rattle.eval_nodes.proofs.Made.{all_places, made_as, new_chain, new_chain_sound, new_split}
use Rattle.eval_nodes.proofs.Made.{new_split_sound}
use Rattle.eval_nodes.proofs.Members.{no_member}
use Rattle.new_nodes.proofs.+make.Goals as goal
use Rattle.eval_nodes.proofs.NewParts.{new_sound, new_word, of_both}

pub construction::new_node-returns-in-Atom-clause-word :
    goal.construction::new_node-returns-in-Atom-clause-word
construction::new_node-returns-in-Atom-clause-word t c = λ columns on.
    made_as seen_of columns _ _ _ _ (ap plain_of c.in-Atom.is) refl (
    λ start. (λ found. absurd (none-some start found), λ there. absurd (no_member start there.0)))

pub construction::new_node-returns-in-Or-clause-word :
    goal.construction::new_node-returns-in-Or-clause-word
construction::new_node-returns-in-Or-clause-word t c =
    new_word _ _ _ _ (λ node is. is)
    (ap plain_of c.in-Or.is
    ∙ of_both choice _ _ _ _ (same_query _ _ c.deref.ensures)
    (same_query _ _ c.deref-in-Or.ensures))
    c.new_choice.result c.new_choice.ensures

pub construction::new_node-returns-in-Or-clause-sound :
    goal.construction::new_node-returns-in-Or-clause-sound
construction::new_node-returns-in-Or-clause-sound t c =
    new_sound _ _ _ _ (λ node is. is)
    (ap plain_of c.in-Or.is
    ∙ of_both choice _ _ _ _ (same_query _ _ c.deref.ensures)
    (same_query _ _ c.deref-in-Or.ensures))
    c.new_choice.result c.new_choice.ensures

pub construction::new_node-returns-in-Apply-clause-word :
    goal.construction::new_node-returns-in-Apply-clause-word
construction::new_node-returns-in-Apply-clause-word t c =
    let e = values.plain_of c.in-Apply.field-1 in
    new_word _ _ _ _ (λ node is. is e)
    (ap plain_of c.in-Apply.is ∙ ap (λ f. apply f e) (same_query _ _ c.deref-in-Apply.ensures))
    c.new_apply.result c.new_apply.ensures

pub construction::new_node-returns-in-Apply-clause-sound :
    goal.construction::new_node-returns-in-Apply-clause-sound
construction::new_node-returns-in-Apply-clause-sound t c =
    let e = values.plain_of c.in-Apply.field-1 in
    new_sound _ _ _ _ (λ node is. is e)
    (ap plain_of c.in-Apply.is ∙ ap (λ f. apply f e) (same_query _ _ c.deref-in-Apply.ensures))
    c.new_apply.result c.new_apply.ensures

pub construction::new_node-returns-in-Split-clause-word :
    goal.construction::new_node-returns-in-Split-clause-word
construction::new_node-returns-in-Split-clause-word t c =
    let e = values.plain_of c.in-Split.field-2 in
    new_word _ _ _ _ (λ node is. is e)
    (ap plain_of c.in-Split.is
    ∙ of_both (λ f g. split f g e) _ _ _ _ (same_query _ _ c.deref-in-Split.ensures)
    (same_query _ _ c.deref-in-Split-2.ensures))
    c.new_split.result c.new_split.ensures

pub construction::new_node-returns-in-Split-clause-sound :
    goal.construction::new_node-returns-in-Split-clause-sound
construction::new_node-returns-in-Split-clause-sound t c =
    let e = values.plain_of c.in-Split.field-2 in
    new_sound _ _ _ _ (λ node is. is e)
    (ap plain_of c.in-Split.is
    ∙ of_both (λ f g. split f g e) _ _ _ _ (same_query _ _ c.deref-in-Split.ensures)
    (same_query _ _ c.deref-in-Split-2.ensures))
    c.new_split.result c.new_split.ensures

pub construction::new_node-returns-in-Combine-clause-word :
    goal.construction::new_node-returns-in-Combine-clause-word
construction::new_node-returns-in-Combine-clause-word t c =
    let e = values.plain_of c.in-Combine.field-2 in
    new_word _ _ _ _ (λ node is. is e)
    (ap plain_of c.in-Combine.is
    ∙ of_both (λ f g. combine f g e) _ _ _ _ (same_query _ _ c.deref-in-Combine.ensures)
    (same_query _ _ c.deref-in-Combine-2.ensures))
    c.new_combine.result c.new_combine.ensures

pub construction::new_node-returns-in-Combine-clause-sound :
    goal.construction::new_node-returns-in-Combine-clause-sound
construction::new_node-returns-in-Combine-clause-sound t c =
    let e = values.plain_of c.in-Combine.field-2 in
    new_sound _ _ _ _ (λ node is. is e)
    (ap plain_of c.in-Combine.is
    ∙ of_both (λ f g. combine f g e) _ _ _ _ (same_query _ _ c.deref-in-Combine.ensures)
    (same_query _ _ c.deref-in-Combine-2.ensures))
    c.new_combine.result c.new_combine.ensures

pub construction::new_node-returns-in-Iter-clause-word :
    goal.construction::new_node-returns-in-Iter-clause-word
construction::new_node-returns-in-Iter-clause-word t c =
    let e = values.plain_of c.in-Iter.field-2 in
    new_word _ _ _ _ (λ node is. is c.in-Iter.field-1 e)
    (ap plain_of c.in-Iter.is
    ∙ ap (λ f. iter f c.in-Iter.field-1 e) (same_query _ _ c.deref-in-Iter.ensures))
    c.new_iter.result c.new_iter.ensures

pub construction::new_node-returns-in-Iter-clause-sound :
    goal.construction::new_node-returns-in-Iter-clause-sound
construction::new_node-returns-in-Iter-clause-sound t c =
    let e = values.plain_of c.in-Iter.field-2 in
    new_sound _ _ _ _ (λ node is. is c.in-Iter.field-1 e)
    (ap plain_of c.in-Iter.is
    ∙ ap (λ f. iter f c.in-Iter.field-1 e) (same_query _ _ c.deref-in-Iter.ensures))
    c.new_iter.result c.new_iter.ensures

pub construction::new_node-returns-in-Compose-clause-word :
    goal.construction::new_node-returns-in-Compose-clause-word
construction::new_node-returns-in-Compose-clause-word t c =
    new_word _ _ _ _ (λ node is. is)
    (ap plain_of c.in-Compose.is
    ∙ of_both compose _ _ _ _ (same_query _ _ c.deref-in-Compose.ensures)
    (same_query _ _ c.deref-in-Compose-2.ensures))
    c.new_compose.result c.new_compose.ensures

pub construction::new_node-returns-in-Compose-clause-sound :
    goal.construction::new_node-returns-in-Compose-clause-sound
construction::new_node-returns-in-Compose-clause-sound t c =
    new_sound _ _ _ _ (λ node is. is)
    (ap plain_of c.in-Compose.is
    ∙ of_both compose _ _ _ _ (same_query _ _ c.deref-in-Compose.ensures)
    (same_query _ _ c.deref-in-Compose-2.ensures))
    c.new_compose.result c.new_compose.ensures

pub construction::new_node-returns-in-Collect-clause-word :
    goal.construction::new_node-returns-in-Collect-clause-word
construction::new_node-returns-in-Collect-clause-word t c =
    new_word _ _ _ _ (λ node is. is _ _ _
    (subst (λ (shape : Shape). inner_of (plain_of shape) ≤ max_slots) c.in-Collect.is
    c.requires.small))
    (ap plain_of c.in-Collect.is) c.new_collect.result c.new_collect.ensures

pub construction::new_node-returns-in-Collect-clause-sound :
    goal.construction::new_node-returns-in-Collect-clause-sound
construction::new_node-returns-in-Collect-clause-sound t c =
    new_sound _ _ _ _ (λ node is. is _ _ _
    (subst (λ (shape : Shape). inner_of (plain_of shape) ≤ max_slots) c.in-Collect.is
    c.requires.small))
    (ap plain_of c.in-Collect.is) c.new_collect.result c.new_collect.ensures

pub construction::idle_runners-rest-requires : goal.construction::idle_runners-rest-requires
construction::idle_runners-rest-requires t c =
    let before = c.idle.invariant in
    let none = ap length before.0 in
    let count = before.1 in
    let room = before.2 in
    let some = c.idle-test.true in
    omega (arith, none, count, room, some)

pub construction::idle_runners-idle-preserved : goal.construction::idle_runners-idle-preserved
construction::idle_runners-idle-preserved t c =
    let before = c.idle.invariant in
    let q = plain_of c.args.query.now.shape in
    let one = roll-Progress (record { node = c.in_ok-node.node; position = 0; answer = None }) in
    let pushed = c.rest.ensures.idle in
    let more = ap length pushed ∙ length-append c.idle.runners.idle (one ∷ []) in
    let count = before.1 in (
      c.rest.ensures.live ∙ before.0,
      omega (arith, more, count),
      c.rest.ensures.room ∙ before.2,
      λ columns. subst (AllByRecursion (IsSoundOf seen_of columns q)) (sym pushed)
          (all_joined (IsSoundOf seen_of columns q) c.idle.runners.idle (one ∷ [])
          (before.3 columns)
          (record { node = c.in_ok-node.ensures.sound columns tt; answer = tt }, tt)),
      subst (AllByRecursion (KeepsFew seen_of (stored_in seen_of q) (slots_of q))) (sym pushed)
          (all_joined (KeepsFew seen_of (stored_in seen_of q) (slots_of q)) c.idle.runners.idle
          (one ∷ []) before.4 (fresh_few q one (c.in_ok-node.ensures.word [] tt) refl, tt)),
    )

pub new_nodes::new_split-returns : goal.new_nodes::new_split-returns
new_nodes::new_split-returns t c = λ expression.
    let f = plain_of c.args.first.now.shape in
    let g = plain_of c.args.second.now.shape in
    let q = split f g expression in
    let a = holding_of c.in_ok-a.a.value.state in
    let b = holding_of c.in_ok-b.b.value.state in
    let room = all_places g c.places.result c.requires.second.small c.places.ensures in
    let held = ap (λ (held : Contents Value). split_held a b held) c.in_ok-held.ensures in
    record {
      word = λ columns on. made_as seen_of columns q q _ _ refl held
          (new_split seen_of columns f g a b c.places.result (c.in_ok-a.ensures.word columns on)
          (c.in_ok-b.ensures.word columns on) room);
      sound = λ columns on. made_soundly_as seen_of columns q q _ _ refl held
          (new_split_sound seen_of columns f g expression a b c.places.result
          (c.in_ok-a.ensures.sound columns on) (c.in_ok-b.ensures.sound columns on) room);
    }

pub new_nodes::new_iter-returns : goal.new_nodes::new_iter-returns
new_nodes::new_iter-returns t c = λ number expression.
    let f = plain_of c.args.inner.now.shape in
    let q = iter f number expression in
    let a = holding_of c.in_ok-a.a.value.state in
    let room = all_places f c.places.result c.requires.small c.places.ensures in
    let so_far = ap (λ (so_far : Contents Value). iter_held a so_far) c.in_ok-so_far.ensures in
    record {
      word = λ columns on. made_as seen_of columns q q _ _ refl so_far
          (new_chain seen_of columns f number expression a c.places.result
          (c.in_ok-a.ensures.word columns on) room);
      sound = λ columns on. made_soundly_as seen_of columns q q _ _ refl so_far
          (new_chain_sound seen_of columns f number expression a c.places.result
          (c.in_ok-a.ensures.sound columns on) room);
    }

pub new_nodes::new_compose-returns : goal.new_nodes::new_compose-returns
unfolding roll-State out-State denote.Hole.Carrier.roll denote.Hole.Carrier.out
new_nodes::new_compose-returns t c =
    let f = plain_of c.args.first.now.shape in
    let g = plain_of c.args.second.now.shape in
    let q = compose f g in
    let a = c.in_ok-a.a in
    let runners = c.in_ok-runners.runners in
    let count = c.in_ok-runners.ensures.count
    ∙ runners_fit f c.places.result c.saturating_add.result c.requires.first.small c.places.ensures
    c.saturating_add.ensures in
    record {
      word = λ columns on. made_as seen_of columns q q _ _ refl (fed_is a runners)
          (new_compose seen_of columns f g (holding_of a.value.state) runners
          (c.in_ok-a.ensures.word columns on) c.in_ok-runners.ensures.live count
          c.in_ok-runners.ensures.few);
      sound = λ columns on. made_soundly_as seen_of columns q q _ _ refl (fed_is a runners)
          (new_compose_sound seen_of columns f g (holding_of a.value.state) runners
          (c.in_ok-a.ensures.sound columns on) c.in_ok-runners.ensures.live count
          c.in_ok-runners.ensures.sound);
    }
