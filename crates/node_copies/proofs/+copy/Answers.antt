use Rattle.std.proofs.Common.{◌∙◌, ◌+◌, List, length, take, ap, arith, subst, sym}
use Rattle.expressions.specs.Expressions as values
use Rattle.predicates.specs.Plain as predicates
use Rattle.rate_expr.specs.Plain as rates
use Rattle.query_model.specs.Queries.{apply, choice, collect, combine, compose, iter, plain_of}
use Rattle.query_model.specs.Queries.{split}
use Rattle.compose_eval.specs.declared.instance.Instance.{Instance}
use Rattle.compose_eval.specs.Followers.{followers_of, outers_of}
use Rattle.eval_nodes.specs.declared.progress.Progress.{Progress}
use Rattle.eval_nodes.specs.Copies.{AreAlike, IsCopy, IsCopyOf}
use Rattle.eval_nodes.specs.Plain.{holding_of, seen_of}
use Rattle.eval_nodes.proofs.Same.{same_query}
use Rattle.eval_nodes.proofs.Runners.{alike_more, as_many_taken, copied_fresh, copied_many}
use Rattle.eval_nodes.proofs.Runners.{follower_put, start_put}
use Rattle.rate_expr.specs.After.{IsStateOf}
use Rattle.symbolic_nfa.specs.Automata.{Automaton}
use Rattle.map_collect.specs.Keys.{followers_of as keyed_followers, keyed_of, names_of}
use Rattle.eval_nodes.proofs.CollectCopying.{key_fresh, name_put, runner_put, start_fresh, state_at}
use Rattle.eval_nodes.proofs.CollectCopying.{track_put}
use Rattle.node_copies.proofs.+copy.Goals as goal
use Rattle.node_copies.proofs.CopyParts.{copied_for}
use Rattle.eval_nodes.proofs.NewParts.{of_both}

pub copies::copied_live-put-requires-clause-room : goal.copies::copied_live-put-requires-clause-room
copies::copied_live-put-requires-clause-room t c =
    let before = c.live.invariant in
    let some = c.live-test.true in
    let count = c.len-i-end.ensures.count in
    let few = c.len-i-end.ensures.few in
    let many = copied_many c.args.runners.now.live c.live.copy.live c.live.i before.2
    (omega (arith, some, count)) in
    let room = before.0 in
    let none = ap length before.1 in
    omega (arith, some, count, few, many, room, none)

pub copies::copied_live-put-requires-clause-fresh :
    goal.copies::copied_live-put-requires-clause-fresh
copies::copied_live-put-requires-clause-fresh t c =
    copied_fresh c.args.runners.now.live c.live.copy.live c.live.i c.outer.result
    c.len-i-end.ensures.distinct c.live.invariant.2 c.outer.ensures

pub copies::copied_live-live-preserved : goal.copies::copied_live-live-preserved
copies::copied_live-live-preserved t c =
    let live = c.args.runners.now.live in
    let before = c.live.invariant in
    let copied = c.in_ok-follower.follower in (
      c.put.ensures.room ∙ before.0,
      c.put.ensures.idle ∙ before.1,
      start_put live c.live.copy.live c.put.new.self.live c.live.i c.outer.result copied
          before.2 c.outer.ensures c.put.ensures.live,
      follower_put (IsCopyOf seen_of (IsCopy seen_of (plain_of c.args.query.now.shape))) live
          c.live.copy.live c.put.new.self.live c.live.i c.outer.result c.follower.result.now copied
          c.follower.ensures before.3 c.in_ok-follower.ensures c.put.ensures.live,
      c.len-i-end.ensures.count,
    )

pub copies::copied_runners-rest-requires : goal.copies::copied_runners-rest-requires
copies::copied_runners-rest-requires t c =
    let before = c.idle.invariant in
    let some = c.idle-test.true in
    let count = c.idle-i-end.ensures in
    let many = as_many_taken (IsCopyOf seen_of (IsCopy seen_of (plain_of c.args.query.now.shape)))
    c.args.runners.now.idle c.idle.copy.idle c.idle.i (omega (arith, some, count)) before.3 in
    let few = before.4 in
    omega (arith, some, count, many, few)

pub copies::copied_runners-idle-preserved : goal.copies::copied_runners-idle-preserved
copies::copied_runners-idle-preserved t c =
    let runners = c.args.runners.now in
    let alike = IsCopyOf seen_of (IsCopy seen_of (plain_of c.args.query.now.shape)) in
    let before = c.idle.invariant in
    let few = before.4 in
    let as_many = ap length c.rest.ensures.live in
    let room = c.rest.ensures.room in (
      c.rest.ensures.room ∙ before.0,
      ap (λ (live : List (Instance Progress)). outers_of live) c.rest.ensures.live ∙ before.1,
      subst (λ (live : List (Instance Progress)). AreAlike alike (followers_of runners.live)
          (followers_of live))
          (sym c.rest.ensures.live) before.2,
      subst (AreAlike alike (take (c.idle.i + 1) runners.idle)) (sym c.rest.ensures.idle)
          (alike_more alike runners.idle c.idle.copy.idle c.idle.i c.resting.result.now
          c.in_ok-copy_of_runner.field-0 c.resting.ensures before.3 c.in_ok-copy_of_runner.ensures),
      omega (arith, few, as_many, room),
      c.idle-i-end.ensures,
    )

pub copies::copy_followers-add-requires : goal.copies::copy_followers-add-requires
copies::copy_followers-add-requires t c = record {
  fresh = key_fresh (names_of c.args.keys.now) (names_of c.keys.copy) c.keys.i c.key.result.now
      c.len-i-end.ensures.distinct c.keys.invariant.1 c.key.ensures;
}

pub copies::copy_followers-keys-preserved : goal.copies::copy_followers-keys-preserved
copies::copy_followers-keys-preserved t c =
    let is_copy = IsCopy seen_of (plain_of c.args.query.now.shape) in
    let before = c.keys.invariant in (
      c.add.ensures.fallback ∙ before.0,
      name_put seen_of is_copy (names_of c.args.keys.now) (keyed_of c.keys.copy)
          (keyed_of c.add.new.self) c.keys.i c.key.result.now c.in_ok-follower.follower
          c.key.ensures before.1 c.in_ok-add.ensures.ok,
      runner_put seen_of is_copy (keyed_followers c.args.keys.now) (keyed_of c.keys.copy)
          (keyed_of c.add.new.self) c.keys.i c.key.result.now c.follower.result.now
          c.in_ok-follower.follower c.follower.ensures before.2
          c.in_ok-follower.ensures c.in_ok-add.ensures.ok,
      before.3,
    )

pub copies::copied_tracks-put-requires-clause-fresh :
    goal.copies::copied_tracks-put-requires-clause-fresh
copies::copied_tracks-put-requires-clause-fresh t c =
    start_fresh seen_of (IsCopy seen_of (plain_of c.args.query.now.shape)) c.args.tracks.now.tracks
    c.starts.copy.tracks c.starts.i c.start.result c.len-i-end.ensures.distinct
    c.starts.invariant.1 c.start.ensures

pub copies::copied_tracks-put-requires-clause-state :
    goal.copies::copied_tracks-put-requires-clause-state
copies::copied_tracks-put-requires-clause-state t c =
    subst (λ (nfa : Automaton). IsStateOf nfa.sets c.state.result) (sym c.starts.invariant.0)
    (state_at c.args.tracks.now.nfa.sets c.args.tracks.now.tracks c.starts.i c.state.result
    c.len-i-end.ensures.states c.state.ensures)

pub copies::copied_tracks-starts-preserved : goal.copies::copied_tracks-starts-preserved
copies::copied_tracks-starts-preserved t c =
    let before = c.starts.invariant in (
      c.put.ensures.nfa ∙ before.0,
      track_put seen_of (IsCopy seen_of (plain_of c.args.query.now.shape)) c.args.tracks.now.tracks
          c.starts.copy.tracks c.put.new.self.tracks c.starts.i c.start.result c.state.result
          c.keys.result.now c.in_ok-keys.keys c.start.ensures
          c.state.ensures c.keys.ensures before.1 c.in_ok-keys.ensures c.in_ok-put.ensures.ok,
      before.2,
    )

pub copies::copy_of_node-returns-in-Or : goal.copies::copy_of_node-returns-in-Or
copies::copy_of_node-returns-in-Or t c =
    copied_for _ _ (holding_of c.args.node.now.state) _ (λ copy is. is)
    (ap plain_of c.in-Or.is
    ∙ of_both choice _ _ _ _ (same_query _ _ c.deref.ensures)
    (same_query _ _ c.deref-in-Or.ensures))
    c.copy_of_choice.result c.copy_of_choice.ensures

pub copies::copy_of_node-returns-in-Apply : goal.copies::copy_of_node-returns-in-Apply
copies::copy_of_node-returns-in-Apply t c =
    let e = values.plain_of c.in-Apply.field-1 in
    copied_for _ _ (holding_of c.args.node.now.state) _ (λ copy is. is e)
    (ap plain_of c.in-Apply.is ∙ ap (λ f. apply f e) (same_query _ _ c.deref-in-Apply.ensures))
    c.copy_of_apply.result c.copy_of_apply.ensures

pub copies::copy_of_node-returns-in-Split : goal.copies::copy_of_node-returns-in-Split
copies::copy_of_node-returns-in-Split t c =
    let e = values.plain_of c.in-Split.field-2 in
    copied_for _ _ (holding_of c.args.node.now.state) _ (λ copy is. is e)
    (ap plain_of c.in-Split.is
    ∙ of_both (λ f g. split f g e) _ _ _ _ (same_query _ _ c.deref-in-Split.ensures)
    (same_query _ _ c.deref-in-Split-2.ensures))
    c.copy_of_split.result c.copy_of_split.ensures

pub copies::copy_of_node-returns-in-Combine : goal.copies::copy_of_node-returns-in-Combine
copies::copy_of_node-returns-in-Combine t c =
    let e = values.plain_of c.in-Combine.field-2 in
    copied_for _ _ (holding_of c.args.node.now.state) _ (λ copy is. is e)
    (ap plain_of c.in-Combine.is
    ∙ of_both (λ f g. combine f g e) _ _ _ _ (same_query _ _ c.deref-in-Combine.ensures)
    (same_query _ _ c.deref-in-Combine-2.ensures))
    c.copy_of_combine.result c.copy_of_combine.ensures

pub copies::copy_of_node-returns-in-Iter : goal.copies::copy_of_node-returns-in-Iter
copies::copy_of_node-returns-in-Iter t c =
    let e = values.plain_of c.in-Iter.field-2 in
    copied_for _ _ (holding_of c.args.node.now.state) _ (λ copy is. is c.in-Iter.field-1 e)
    (ap plain_of c.in-Iter.is
    ∙ ap (λ f. iter f c.in-Iter.field-1 e) (same_query _ _ c.deref-in-Iter.ensures))
    c.copy_of_iter.result c.copy_of_iter.ensures

pub copies::copy_of_node-returns-in-Compose : goal.copies::copy_of_node-returns-in-Compose
copies::copy_of_node-returns-in-Compose t c =
    copied_for _ _ (holding_of c.args.node.now.state) _ (λ copy is. is)
    (ap plain_of c.in-Compose.is
    ∙ of_both compose _ _ _ _ (same_query _ _ c.deref-in-Compose.ensures)
    (same_query _ _ c.deref-in-Compose-2.ensures))
    c.copy_of_compose.result c.copy_of_compose.ensures

pub copies::copy_of_node-returns-in-Collect : goal.copies::copy_of_node-returns-in-Collect
copies::copy_of_node-returns-in-Collect t c =
    let sync = predicates.plain_of c.in-Collect.field-1 in
    let rate = rates.plain_of c.in-Collect.field-2 in
    copied_for _ _ (holding_of c.args.node.now.state) _
    (λ copy is. is c.in-Collect.field-0 sync rate)
    (ap plain_of c.in-Collect.is ∙ ap (λ f. collect c.in-Collect.field-0 sync rate f)
    (same_query _ _ c.deref-in-Collect.ensures))
    c.copy_of_collect.result c.copy_of_collect.ensures
