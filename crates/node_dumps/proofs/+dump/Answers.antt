use Rattle.std.proofs.Common.{◌∙◌, ap}
use Rattle.expressions.specs.Expressions as values
use Rattle.predicates.specs.Plain as predicates
use Rattle.rate_expr.specs.Plain as rates
use Rattle.query_model.specs.Queries.{apply, choice, collect, combine, compose, iter, plain_of}
use Rattle.query_model.specs.Queries.{split}
use Rattle.map_collect.specs.Keys.{followers_of, names_of}
use Rattle.eval_nodes.specs.Plain.{holding_of, seen_of}
use Rattle.eval_nodes.specs.declared.node.Node.{Node}
use Rattle.eval_nodes.proofs.NewParts.{of_both}
use Rattle.eval_nodes.proofs.Same.{same_query}
use Rattle.runner_snapshot.specs.Plain.{keys_of, plain_keys, plain_node, plain_runner}
use Rattle.runner_snapshot.specs.Plain.{plain_runners, plain_tracks, runners_of, tracks_of}
use Rattle.eval_snapshot.specs.Dumped.{dumped, dumped_node}
use Rattle.node_dumps.proofs.DumpLists.{fed_put, keyed_put, track_put}
use Rattle.node_dumps.proofs.DumpParts.{collect_dumped, compose_dumped, dumped_for}
use Rattle.node_dumps.proofs.+dump.Goals as goal

pub lists::dumped_runners-live-preserved : goal.lists::dumped_runners-live-preserved
lists::dumped_runners-live-preserved t c = (
  fed_put (plain_of c.args.query.now.shape) c.args.instances.now.live c.live.i c.outer.result
      c.follower.result.now (runners_of c.live.runners) _ (plain_runner c.in_ok-dump.dump)
      c.outer.ensures c.follower.ensures c.live.invariant.0 c.in_ok-dump.ensures
      c.in_ok-push.ensures.ok,
  c.len-i-end.ensures.count,
)

pub lists::dumped_keys-keys-preserved : goal.lists::dumped_keys-keys-preserved
lists::dumped_keys-keys-preserved t c = (
  keyed_put (dumped seen_of (plain_of c.args.query.now.shape)) (names_of c.args.keys.now)
      (followers_of c.args.keys.now) c.keys.i c.key.result.now c.follower.result.now
      (keys_of c.keys.dumps) _ (plain_runner c.in_ok-dump.dump) c.key.ensures c.follower.ensures
      c.keys.invariant.0 c.in_ok-dump.ensures c.in_ok-push.ensures.ok,
  c.len-i-end.ensures.count,
)

pub lists::dumped_tracks-starts-preserved : goal.lists::dumped_tracks-starts-preserved
lists::dumped_tracks-starts-preserved t c = (
  track_put (plain_of c.args.query.now.shape) c.args.tracks.now.tracks c.starts.i c.start.result
      c.state.result c.keys-held.result.now (tracks_of c.starts.dumps) _
      (plain_runner c.in_ok-fallback.fallback) (plain_keys c.in_ok-keys.keys) c.start.ensures
      c.state.ensures c.keys-held.ensures c.starts.invariant.0
      (c.in_ok-fallback.ensures
      ∙ ap (dumped seen_of (plain_of c.args.query.now.shape)) c.fallback.ensures)
      c.in_ok-keys.ensures c.in_ok-push.ensures.ok,
  c.len-i-end.ensures.count,
)

pub dumps::dump_of_node-returns-in-Atom : goal.dumps::dump_of_node-returns-in-Atom
dumps::dump_of_node-returns-in-Atom t c =
    let s = c.in-Atom in
    dumped_for _ _ (holding_of c.args.node.now.state) _
    (λ dump is. is (predicates.plain_of s.field-0) (values.plain_of s.field-1))
    (ap plain_of s.is) c.dump_of_atom.result c.dump_of_atom.ensures

pub dumps::dump_of_node-returns-in-Or : goal.dumps::dump_of_node-returns-in-Or
dumps::dump_of_node-returns-in-Or t c =
    dumped_for _ _ (holding_of c.args.node.now.state) _ (λ dump is. is)
    (ap plain_of c.in-Or.is
    ∙ of_both choice _ _ _ _ (same_query _ _ c.deref.ensures)
    (same_query _ _ c.deref-in-Or.ensures))
    c.dump_of_choice.result c.dump_of_choice.ensures

pub dumps::dump_of_node-returns-in-Apply : goal.dumps::dump_of_node-returns-in-Apply
dumps::dump_of_node-returns-in-Apply t c =
    let e = values.plain_of c.in-Apply.field-1 in
    dumped_for _ _ (holding_of c.args.node.now.state) _ (λ dump is. is e)
    (ap plain_of c.in-Apply.is ∙ ap (λ f. apply f e) (same_query _ _ c.deref-in-Apply.ensures))
    c.dump_of_apply.result c.dump_of_apply.ensures

pub dumps::dump_of_node-returns-in-Split : goal.dumps::dump_of_node-returns-in-Split
dumps::dump_of_node-returns-in-Split t c =
    let e = values.plain_of c.in-Split.field-2 in
    dumped_for _ _ (holding_of c.args.node.now.state) _ (λ dump is. is e)
    (ap plain_of c.in-Split.is
    ∙ of_both (λ f g. split f g e) _ _ _ _ (same_query _ _ c.deref-in-Split.ensures)
    (same_query _ _ c.deref-in-Split-2.ensures))
    c.dump_of_split.result c.dump_of_split.ensures

pub dumps::dump_of_node-returns-in-Combine : goal.dumps::dump_of_node-returns-in-Combine
dumps::dump_of_node-returns-in-Combine t c =
    let e = values.plain_of c.in-Combine.field-2 in
    dumped_for _ _ (holding_of c.args.node.now.state) _ (λ dump is. is e)
    (ap plain_of c.in-Combine.is
    ∙ of_both (λ f g. combine f g e) _ _ _ _ (same_query _ _ c.deref-in-Combine.ensures)
    (same_query _ _ c.deref-in-Combine-2.ensures))
    c.dump_of_combine.result c.dump_of_combine.ensures

pub dumps::dump_of_node-returns-in-Iter : goal.dumps::dump_of_node-returns-in-Iter
dumps::dump_of_node-returns-in-Iter t c =
    let e = values.plain_of c.in-Iter.field-2 in
    dumped_for _ _ (holding_of c.args.node.now.state) _ (λ dump is. is c.in-Iter.field-1 e)
    (ap plain_of c.in-Iter.is
    ∙ ap (λ f. iter f c.in-Iter.field-1 e) (same_query _ _ c.deref-in-Iter.ensures))
    c.dump_of_iter.result c.dump_of_iter.ensures

pub dumps::dump_of_node-returns-in-Compose : goal.dumps::dump_of_node-returns-in-Compose
dumps::dump_of_node-returns-in-Compose t c =
    dumped_for _ _ (holding_of c.args.node.now.state) _ (λ dump is. is)
    (ap plain_of c.in-Compose.is
    ∙ of_both compose _ _ _ _ (same_query _ _ c.deref-in-Compose.ensures)
    (same_query _ _ c.deref-in-Compose-2.ensures))
    c.dump_of_compose.result c.dump_of_compose.ensures

pub dumps::dump_of_node-returns-in-Collect : goal.dumps::dump_of_node-returns-in-Collect
dumps::dump_of_node-returns-in-Collect t c =
    let sync = predicates.plain_of c.in-Collect.field-1 in
    let rate = rates.plain_of c.in-Collect.field-2 in
    dumped_for _ _ (holding_of c.args.node.now.state) _
    (λ dump is. is c.in-Collect.field-0 sync rate)
    (ap plain_of c.in-Collect.is ∙ ap (λ f. collect c.in-Collect.field-0 sync rate f)
    (same_query _ _ c.deref-in-Collect.ensures))
    c.dump_of_collect.result c.dump_of_collect.ensures

pub node_dumps::dump_of_compose-returns-in_ok-runners-in-Compose :
    goal.node_dumps::dump_of_compose-returns-in_ok-runners-in-Compose
node_dumps::dump_of_compose-returns-in_ok-runners-in-Compose t c =
    let s = c.in-Compose in
    let f = plain_of c.args.left.now.shape in
    compose_dumped f (plain_of c.args.right.now.shape) c.args.node.now.state s.a s.instances
    (plain_node c.in_ok-a-in-Compose.a.value) (plain_runners c.in_ok-runners-in-Compose.runners)
    s.is
    (c.in_ok-a-in-Compose.ensures
    ∙ ap (λ (n : Node). dumped_node seen_of f (holding_of n.state)) c.deref.ensures)
    c.in_ok-runners-in-Compose.ensures

pub node_dumps::dump_of_collect-returns-in_ok-tracks-in-Collect :
    goal.node_dumps::dump_of_collect-returns-in_ok-tracks-in-Collect
node_dumps::dump_of_collect-returns-in_ok-tracks-in-Collect t c = λ chosen sync rate.
    let s = c.in-Collect in
    collect_dumped chosen sync rate (plain_of c.args.inner.now.shape) c.args.node.now.state s.tracks
    s.field-1 (plain_tracks c.in_ok-tracks-in-Collect.tracks) s.is
    c.in_ok-tracks-in-Collect.ensures
