use Rattle.std.proofs.Common.{◌∙◌, ◌+◌, ◌-◌, ◌^◌, min, ap, arith, sym}
use Rattle.predicates.specs.Plain as predicates
use Rattle.rate_expr.specs.Plain as rates
use Rattle.expressions.specs.Expressions as values
use Rattle.query_model.specs.Queries.{apply, choice, collect, combine, compose, iter, plain_of}
use Rattle.query_model.specs.Queries.{split}
use Rattle.eval_nodes.specs.declared.node.Node.{Node}
use Rattle.eval_nodes.proofs.HeldRunners.{fed_is}
use Rattle.compose_eval.specs.Followers.{followers_of}
use Rattle.eval_nodes.specs.declared.progress.Progress.{Progress}
use Rattle.eval_nodes.specs.Counts.{size_of_runner, stored_in}
use Rattle.eval_nodes.specs.Plain.{holding_of, seen_of}
use Rattle.eval_nodes.proofs.Runners.{sum_more}
use Rattle.map_collect.specs.Keys.{followers_of as keyed_followers}
use Rattle.eval_nodes.specs.Holdings.{Holding}
use Rattle.eval_nodes.proofs.HeldTracks.{tracked_is}
use Rattle.eval_nodes.proofs.Same.{same_query}
use Rattle.eval_nodes.proofs.CollectCopying.{size_more}
use Rattle.node_counts.proofs.CountParts.{stored_as}
use Rattle.eval_nodes.proofs.NewParts.{of_both}
use Rattle.node_counts.proofs.+stored.Goals as goal

pub counts::size_of_live-live-preserved : goal.counts::size_of_live-live-preserved
counts::size_of_live-live-preserved t c =
    let size = (λ (runner : Progress). 1
    + size_of_runner seen_of (stored_in seen_of (plain_of c.args.query.now.shape)) runner) in
    let more = sum_more size (followers_of c.args.runners.now.live) c.live.i c.follower.result.now
    c.follower.ensures in
    (omega (arith, more), c.len-i-end.ensures.count)

pub counts::size_of_idle-idle-preserved : goal.counts::size_of_idle-idle-preserved
counts::size_of_idle-idle-preserved t c =
    let size = (λ (runner : Progress). 1
    + size_of_runner seen_of (stored_in seen_of (plain_of c.args.query.now.shape)) runner) in
    let more = sum_more size c.args.runners.now.idle c.idle.i c.resting.result.now
    c.resting.ensures in
    (omega (arith, more), c.idle-i-end.ensures)

pub counts::size_of_tracks-starts-preserved : goal.counts::size_of_tracks-starts-preserved
counts::size_of_tracks-starts-preserved t c =
    let more = size_more seen_of (stored_in seen_of (plain_of c.args.query.now.shape))
    c.args.tracks.now.tracks c.starts.i c.state.result c.keys.result.now c.state.ensures
    c.keys.ensures in
    (omega (arith, more), c.len-i-end.ensures.count)

pub counts::size_of_keys-keys-preserved : goal.counts::size_of_keys-keys-preserved
counts::size_of_keys-keys-preserved t c =
    let size = (λ (runner : Progress). 1
    + size_of_runner seen_of (stored_in seen_of (plain_of c.args.query.now.shape)) runner) in
    let more = sum_more size (keyed_followers c.args.keys.now) c.keys.i c.follower.result.now
    c.follower.ensures in
    (omega (arith, more), c.len-i-end.ensures.count)

pub counts::stored-returns-in-Atom : goal.counts::stored-returns-in-Atom
counts::stored-returns-in-Atom t c =
    stored_as _ _ c.args.node.now.state c.size_of_atom.result
    (ap plain_of c.in-Atom.is)
    (c.size_of_atom.ensures (predicates.plain_of c.in-Atom.field-0)
    (values.plain_of c.in-Atom.field-1))

pub counts::stored-returns-in-Or : goal.counts::stored-returns-in-Or
counts::stored-returns-in-Or t c =
    stored_as _ _ c.args.node.now.state c.size_of_choice.result
    (ap plain_of c.in-Or.is
    ∙ of_both choice _ _ _ _ (same_query _ _ c.deref.ensures)
    (same_query _ _ c.deref-in-Or.ensures))
    c.size_of_choice.ensures

pub counts::stored-returns-in-Apply : goal.counts::stored-returns-in-Apply
counts::stored-returns-in-Apply t c =
    let e = values.plain_of c.in-Apply.field-1 in
    stored_as _ _ c.args.node.now.state c.size_of_apply.result
    (ap plain_of c.in-Apply.is ∙ ap (λ f. apply f e) (same_query _ _ c.deref-in-Apply.ensures))
    (c.size_of_apply.ensures e)

pub counts::stored-returns-in-Split : goal.counts::stored-returns-in-Split
counts::stored-returns-in-Split t c =
    let e = values.plain_of c.in-Split.field-2 in
    stored_as _ _ c.args.node.now.state c.size_of_split.result
    (ap plain_of c.in-Split.is
    ∙ of_both (λ f g. split f g e) _ _ _ _ (same_query _ _ c.deref-in-Split.ensures)
    (same_query _ _ c.deref-in-Split-2.ensures))
    (c.size_of_split.ensures e)

pub counts::stored-returns-in-Combine : goal.counts::stored-returns-in-Combine
counts::stored-returns-in-Combine t c =
    let e = values.plain_of c.in-Combine.field-2 in
    stored_as _ _ c.args.node.now.state c.size_of_combine.result
    (ap plain_of c.in-Combine.is
    ∙ of_both (λ f g. combine f g e) _ _ _ _ (same_query _ _ c.deref-in-Combine.ensures)
    (same_query _ _ c.deref-in-Combine-2.ensures))
    (c.size_of_combine.ensures e)

pub counts::stored-returns-in-Iter : goal.counts::stored-returns-in-Iter
counts::stored-returns-in-Iter t c =
    let e = values.plain_of c.in-Iter.field-2 in
    stored_as _ _ c.args.node.now.state c.size_of_iter.result
    (ap plain_of c.in-Iter.is
    ∙ ap (λ f. iter f c.in-Iter.field-1 e) (same_query _ _ c.deref-in-Iter.ensures))
    (c.size_of_iter.ensures c.in-Iter.field-1 e)

pub counts::stored-returns-in-Compose : goal.counts::stored-returns-in-Compose
counts::stored-returns-in-Compose t c =
    stored_as _ _ c.args.node.now.state c.size_of_compose.result
    (ap plain_of c.in-Compose.is
    ∙ of_both compose _ _ _ _ (same_query _ _ c.deref-in-Compose.ensures)
    (same_query _ _ c.deref-in-Compose-2.ensures))
    c.size_of_compose.ensures

pub counts::stored-returns-in-Collect : goal.counts::stored-returns-in-Collect
counts::stored-returns-in-Collect t c =
    let s = c.in-Collect in
    let sync = predicates.plain_of s.field-1 in
    let rate = rates.plain_of s.field-2 in
    stored_as _ _ c.args.node.now.state c.size_of_collect.result
    (ap plain_of s.is
    ∙ ap (λ f. collect s.field-0 sync rate f) (same_query _ _ c.deref-in-Collect.ensures))
    (c.size_of_collect.ensures s.field-0 sync rate)

pub node_counts::size_of_compose-returns-in-Compose :
    goal.node_counts::size_of_compose-returns-in-Compose
node_counts::size_of_compose-returns-in-Compose t c =
    let s = c.in-Compose in
    let f = plain_of c.args.first.now.shape in
    let g = plain_of c.args.second.now.shape in
    let whole = ap (stored_in seen_of (compose f g)) (ap holding_of s.is ∙ fed_is s.a s.runners) in
    let left = c.stored.ensures
    ∙ ap (λ (n : Node). min (stored_in seen_of f (holding_of n.state)) (2 ^ 64 - 1))
    c.deref.ensures in
    let lives = c.size_of_live.ensures in
    let rests = c.size_of_idle.ensures in
    let both = c.saturating_add-fed.ensures in
    let all = c.saturating_add.ensures in
    omega (arith, whole, left, lives, rests, both, all)

pub node_counts::size_of_collect-returns-in-Collect :
    goal.node_counts::size_of_collect-returns-in-Collect
node_counts::size_of_collect-returns-in-Collect t c = λ chosen sync rate.
    let s = c.in-Collect in
    let f = plain_of c.args.inner.now.shape in
    c.size_of_tracks.ensures
    ∙ ap
    (λ (h : Holding Progress). min (stored_in seen_of (collect chosen sync rate f) h) (2 ^ 64 - 1))
    (sym (ap holding_of s.is ∙ tracked_is s.tracks _))
