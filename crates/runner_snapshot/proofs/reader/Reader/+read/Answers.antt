use Rattle.std.proofs.Common.{◌-◌, Some, ap, subst, sym, ◌∙◌}
use Rattle.std.proofs.lemmas.Result.{err_from_is_err_and}
use Rattle.runner_snapshot.specs.declared.tags.NodeTag.{NodeTag}
use Rattle.runner_snapshot.specs.Dumps.{Node}
use Rattle.runner_snapshot.specs.Plain.{keys_of, plain_keys, plain_node, plain_runner}
use Rattle.runner_snapshot.specs.Plain.{plain_runners}
use Rattle.runner_snapshot.specs.Plain.{plain_tracks, runners_of, tracks_of}
use Rattle.runner_snapshot.specs.Reading.{Gives, Read, fed_at, keyed_at, node_at, node_of}
use Rattle.runner_snapshot.specs.Reading.{repeat_at}
use Rattle.runner_snapshot.specs.Reading.{track_at}
use Rattle.runner_snapshot.proofs.KeyReads.{both_read, no_key, no_runner}
use Rattle.runner_snapshot.proofs.NodeReads.{collect_read, collect_unread, compose_read}
use Rattle.runner_snapshot.proofs.NodeReads.{compose_unread, no_tag, node_read, node_unread}
use Rattle.runner_snapshot.proofs.NodeReads.{none_left, track_read}
use Rattle.runner_snapshot.proofs.Repeating.{counted_done, counted_ends, goes_on}
use Rattle.runner_snapshot.proofs.reader.Reader.+read.Goals as goal

pub runners-returns-in_err-outer : goal.runners-returns-in_err-outer
runners-returns-in_err-outer t c =
    let p = err_from_is_err_and c.from_residual-in_err-outer.result
    c.from_residual-in_err-outer.ensures.1 in
    rw (p.1, p.2) (counted_ends (fed_at (node_at c.args.levels)) c.in_err-outer.field-0.0
    (runners_of c.runners.runners)
    c.in_ok-count.count c.runners.counter c.args.self.now.rest.now c.count.new.self.rest.now
    c.runners.self.rest.now c.in_ok-count.ensures c.runners-test.true c.in_err-outer.ensures
    c.runners.invariant)

pub runners-runners-preserved : goal.runners-runners-preserved
runners-runners-preserved t c =
    rw c.in_ok-push.ensures.ok (goes_on (fed_at (node_at c.args.levels)) (runners_of
    c.runners.runners) c.in_ok-count.count
    c.runners.counter c.runners.self.rest.now (record {
      outer = c.in_ok-outer.outer;
      runner =
          plain_runner c.in_ok-outer.dump;
    }) c.instance.new.self.rest.now
    (repeat_at (fed_at (node_at c.args.levels)) c.in_ok-count.count c.count.new.self.rest.now)
    c.runners-test.true
    c.in_ok-outer.ensures c.runners.invariant)

pub runners-returns : goal.runners-returns
runners-returns t c =
    counted_done (fed_at (node_at c.args.levels)) (runners_of c.runners.runners) c.in_ok-count.count
    c.runners.counter
    c.args.self.now.rest.now c.count.new.self.rest.now c.runners.self.rest.now
    c.in_ok-count.ensures c.runners-test.false c.runners.invariant

pub keys-returns-in_err-key : goal.keys-returns-in_err-key
keys-returns-in_err-key t c =
    let p = err_from_is_err_and c.from_residual-in_err-key.result
    c.from_residual-in_err-key.ensures.1 in
    rw (p.1, p.2) (counted_ends (keyed_at (node_at c.args.levels)) c.in_err-key.field-0.0 (keys_of
    c.keys.keys)
    c.in_ok-count.count c.keys.counter c.args.self.now.rest.now c.count.new.self.rest.now
    c.keys.self.rest.now c.in_ok-count.ensures c.keys-test.true
    (no_key (node_at c.args.levels) c.in_err-key.field-0.0 c.keys.self.rest.now
    c.in_err-key.ensures)
    c.keys.invariant)

pub keys-returns-in_err-dump : goal.keys-returns-in_err-dump
keys-returns-in_err-dump t c =
    let p = err_from_is_err_and c.from_residual-in_err-dump.result
    c.from_residual-in_err-dump.ensures.1 in
    rw (p.1, p.2) (counted_ends (keyed_at (node_at c.args.levels)) c.in_err-dump.field-0.0 (keys_of
    c.keys.keys)
    c.in_ok-count.count c.keys.counter c.args.self.now.rest.now c.count.new.self.rest.now
    c.keys.self.rest.now c.in_ok-count.ensures c.keys-test.true
    (no_runner (node_at c.args.levels) c.in_err-dump.field-0.0 c.keys.self.rest.now
    c.in_ok-key.key.now
    c.text.new.self.rest.now c.in_ok-key.ensures c.in_err-dump.ensures) c.keys.invariant)

pub keys-keys-preserved : goal.keys-keys-preserved
keys-keys-preserved t c =
    rw c.in_ok-push.ensures.ok (goes_on (keyed_at (node_at c.args.levels)) (keys_of c.keys.keys)
    c.in_ok-count.count
    c.keys.counter c.keys.self.rest.now
    (record { key = c.in_ok-key.key.now; runner = plain_runner c.in_ok-dump.dump })
    c.runner.new.self.rest.now
    (repeat_at (keyed_at (node_at c.args.levels)) c.in_ok-count.count c.count.new.self.rest.now)
    c.keys-test.true
    (both_read (node_at c.args.levels) c.keys.self.rest.now c.in_ok-key.key.now
    c.text.new.self.rest.now
    (plain_runner c.in_ok-dump.dump) c.runner.new.self.rest.now c.in_ok-key.ensures
    c.in_ok-dump.ensures) c.keys.invariant)

pub keys-returns : goal.keys-returns
keys-returns t c =
    counted_done (keyed_at (node_at c.args.levels)) (keys_of c.keys.keys) c.in_ok-count.count
    c.keys.counter
    c.args.self.now.rest.now c.count.new.self.rest.now c.keys.self.rest.now
    c.in_ok-count.ensures c.keys-test.false c.keys.invariant

pub tracks-returns-in_err-start : goal.tracks-returns-in_err-start
tracks-returns-in_err-start t c =
    let p = err_from_is_err_and c.from_residual-in_err-start.result
    c.from_residual-in_err-start.ensures.1 in
    rw (p.1, p.2) (counted_ends (track_at (node_at c.args.levels)) c.in_err-start.field-0.0
    (tracks_of c.tracks.tracks)
    c.in_ok-count.count c.tracks.counter c.args.self.now.rest.now c.count.new.self.rest.now
    c.tracks.self.rest.now c.in_ok-count.ensures c.tracks-test.true c.in_err-start.ensures
    c.tracks.invariant)

pub tracks-tracks-preserved : goal.tracks-tracks-preserved
tracks-tracks-preserved t c =
    rw c.in_ok-push.ensures.ok (goes_on (track_at (node_at c.args.levels)) (tracks_of
    c.tracks.tracks) c.in_ok-count.count
    c.tracks.counter c.tracks.self.rest.now (record {
      start = c.in_ok-start.start;
      state = c.in_ok-start.state;
      fallback = plain_runner c.in_ok-start.fallback;
      keys = plain_keys c.in_ok-start.keys;
    }) c.track.new.self.rest.now
    (repeat_at (track_at (node_at c.args.levels)) c.in_ok-count.count c.count.new.self.rest.now)
    c.tracks-test.true
    c.in_ok-start.ensures c.tracks.invariant)

pub tracks-returns : goal.tracks-returns
tracks-returns t c =
    counted_done (track_at (node_at c.args.levels)) (tracks_of c.tracks.tracks) c.in_ok-count.count
    c.tracks.counter
    c.args.self.now.rest.now c.count.new.self.rest.now c.tracks.self.rest.now
    c.in_ok-count.ensures c.tracks-test.false c.tracks.invariant

pub node-returns-then-levels-eq0 : goal.node-returns-then-levels-eq0
node-returns-then-levels-eq0 t c =
    none_left c.args.levels c.args.self.now.rest.now c.if-levels-eq0.true

pub node-returns-in_err-byte : goal.node-returns-in_err-byte
node-returns-in_err-byte t c =
    let p = err_from_is_err_and c.from_residual.result c.from_residual.ensures.1 in
    rw (p.1, p.2) (node_unread c.in_err-byte.field-0.0 c.args.levels c.args.self.now.rest.now
    c.if-levels-eq0.false c.in_err-byte.ensures)

pub node-returns-in-Some : goal.node-returns-in-Some
node-returns-in-Some t c =
    subst
    (λ (read : Read Node). Gives plain_node c.node_after.result c.node_after.new.self.rest.now
    read)
    (sym (node_read c.args.levels c.args.self.now.rest.now c.in_ok-byte.byte
    c.byte.new.self.rest.now (Some c.in-Some.tag) c.if-levels-eq0.false c.in_ok-byte.ensures
    (sym c.of.ensures ∙ c.in-Some.is)))
    c.node_after.ensures

pub node-returns-in-None : goal.node-returns-in-None
node-returns-in-None t c =
    node_read c.args.levels c.args.self.now.rest.now c.in_ok-byte.byte c.byte.new.self.rest.now
    _ c.if-levels-eq0.false c.in_ok-byte.ensures (sym c.of.ensures ∙ c.in-None.is)
    ∙ no_tag (node_at (c.args.levels - 1)) c.byte.new.self.rest.now

pub node_after-returns-in_ok-runners-in-Compose : goal.node_after-returns-in_ok-runners-in-Compose
node_after-returns-in_ok-runners-in-Compose t c =
    ap (λ (tag : NodeTag). node_of (node_at c.args.levels) (Some tag) c.args.self.now.rest.now)
    c.in-Compose.is
    ∙ compose_read (node_at c.args.levels) c.args.self.now.rest.now
    (plain_node c.in_ok-left-in-Compose.left.value) c.boxed_node-in-Compose.new.self.rest.now
    (plain_runners c.in_ok-runners-in-Compose.field-0) c.runners.new.self.rest.now
    c.in_ok-left-in-Compose.ensures c.in_ok-runners-in-Compose.ensures

pub node_after-returns-in_ok-tracks-in-Collect : goal.node_after-returns-in_ok-tracks-in-Collect
node_after-returns-in_ok-tracks-in-Collect t c =
    ap (λ (tag : NodeTag). node_of (node_at c.args.levels) (Some tag) c.args.self.now.rest.now)
    c.in-Collect.is
    ∙ collect_read (node_at c.args.levels) c.args.self.now.rest.now
    (plain_tracks c.in_ok-tracks-in-Collect.field-0) c.tracks.new.self.rest.now
    c.in_ok-tracks-in-Collect.ensures

pub node_after-returns-in_err-runners-in-Compose
    : goal.node_after-returns-in_err-runners-in-Compose
node_after-returns-in_err-runners-in-Compose t c =
    let p = err_from_is_err_and c.from_residual-in_err-runners-in-Compose.result
    c.from_residual-in_err-runners-in-Compose.ensures.1 in
    rw (p.1, p.2) (compose_unread (node_at c.args.levels)
    c.in_err-runners-in-Compose.field-0.0 c.args.tag c.args.self.now.rest.now
    (plain_node c.in_ok-left-in-Compose.left.value) c.boxed_node-in-Compose.new.self.rest.now
    c.in-Compose.is c.in_ok-left-in-Compose.ensures c.in_err-runners-in-Compose.ensures)

pub node_after-returns-in_err-tracks-in-Collect
    : goal.node_after-returns-in_err-tracks-in-Collect
node_after-returns-in_err-tracks-in-Collect t c =
    let p = err_from_is_err_and c.from_residual-in_err-tracks-in-Collect.result
    c.from_residual-in_err-tracks-in-Collect.ensures.1 in
    rw (p.1, p.2) (collect_unread (node_at c.args.levels)
    c.in_err-tracks-in-Collect.field-0.0 c.args.tag c.args.self.now.rest.now
    c.in-Collect.is c.in_err-tracks-in-Collect.ensures)

pub track-returns : goal.track-returns
track-returns t c =
    track_read (node_at c.args.levels) c.args.self.now.rest.now c.in_ok-start.start
    c.number.new.self.rest.now
    c.in_ok-state.state c.state.new.self.rest.now (plain_runner c.in_ok-fallback.fallback)
    c.runner.new.self.rest.now (plain_keys c.in_ok-keys.keys) c.keys.new.self.rest.now
    c.in_ok-start.ensures c.in_ok-state.ensures c.in_ok-fallback.ensures c.in_ok-keys.ensures
