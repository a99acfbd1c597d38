use Rattle.std.proofs.Common.{◌≡◌, ◌++◌, ◌∙◌, ℕ, List, [], ◌∷◌, None, ap, arith, length, map}
use Rattle.std.proofs.Common.{refl, rules, subst, sym}
use Rattle.std.proofs.lemmas.List.{length-map, take_all}
use Rattle.std.specs.List.{AllZip}
use Rattle.expressions.specs.Expressions as values
use Rattle.predicates.specs.Plain as predicates
use Rattle.rate_expr.specs.After.{IsStateOf}
use Rattle.rate_expr.specs.FirstLastFollow.{AreSetsOf}
use Rattle.rate_expr.specs.Plain as rates
use Rattle.query_model.specs.Queries.{plain_of}
use Rattle.value_ops.specs.declared.value.Value.{Value}
use Rattle.symbolic_nfa.specs.Automata.{Automaton}
use Rattle.split_eval.specs.Entries.{Contents}
use Rattle.map_collect.specs.Followers.{Followers}
use Rattle.map_collect.specs.Keys.{followers_of, names_of}
use Rattle.eval_nodes.specs.Holdings.{iter_held, split_held}
use Rattle.eval_nodes.specs.Plain.{holding_of, seen_of}
use Rattle.eval_nodes.specs.declared.node.State.TheViews.{out-State, roll-State}
use Rattle.eval_nodes.specs.declared.progress.Progress.{Progress}
use Rattle.eval_nodes.proofs.CollectCopying.{key_fresh}
use Rattle.eval_nodes.proofs.Instances.{all_read}
use Rattle.eval_nodes.proofs.HeldRunners.{fed_is}
use Rattle.eval_nodes.proofs.HeldTracks.{tracked_is}
use Rattle.eval_nodes.proofs.Made.{all_places}
use Rattle.eval_nodes.proofs.MadeFed.{runners_fit}
use Rattle.eval_nodes.proofs.Runners.{take_one}
use Rattle.runner_snapshot.specs.Dumps.{Fed, Keyed, Track}
use Rattle.runner_snapshot.specs.Plain.{keys_of, plain_keys, plain_node, plain_runner, runners_of}
use Rattle.runner_snapshot.specs.Plain.{plain_runners, plain_tracks, tracks_of}
use Rattle.restored_nodes.specs.Restored.{IsRestoredFed, IsRestoredRunner, IsRestoredTrack}
use Rattle.restored_nodes.specs.Rooms.{AreFewFed, AreFewWaiting, HasRoom}
use Rattle.restored_nodes.proofs.Lists.{part_read, zip_done, zip_more}
use Rattle.restored_nodes.proofs.Returned.{fed_count, fed_fresh, start_fresh, states_of_rate}
use Rattle.restored_nodes.proofs.Shapes.{apply_back, choice_back, collect_back, combine_back}
use Rattle.restored_nodes.proofs.Shapes.{compose_back, iter_back, restored_as, split_back}
use Rattle.restored_nodes.proofs.+restore.Goals as goal

-- ---- the runners of a compose

pub runners::live_runners-put-requires-clause-room :
    goal.runners::live_runners-put-requires-clause-room
runners::live_runners-put-requires-clause-room t c =
    let q = plain_of c.args.query.now.shape in
    let dumps = runners_of c.args.runners.now in
    let before = c.fed.invariant in
    let some = c.fed-test.true in
    let all = before.3 in
    let count = fed_count seen_of q dumps c.fed.i c.fed.held.live (omega (arith, some, all))
    before.0 in
    let none = ap length before.1 in
    let room = before.2 in
    let few = c.requires.few.few in
    omega (arith, some, all, count, none, room, few)

pub runners::live_runners-put-requires-clause-fresh :
    goal.runners::live_runners-put-requires-clause-fresh
runners::live_runners-put-requires-clause-fresh t c =
    let one : Fed = record {
      outer = c.get-outer.result.0;
      runner = plain_runner c.get-outer.result.1.now;
    } in
    fed_fresh seen_of (plain_of c.args.query.now.shape) (runners_of c.args.runners.now) c.fed.i one
    c.fed.held.live c.requires.few.distinct c.get-outer.ensures c.fed.invariant.0

pub runners::live_runners-fed-preserved : goal.runners::live_runners-fed-preserved
runners::live_runners-fed-preserved t c =
    let q = plain_of c.args.query.now.shape in
    let before = c.fed.invariant in
    let one : Fed = record {
      outer = c.get-outer.result.0;
      runner = plain_runner c.get-outer.result.1.now;
    } in (
      zip_more (IsRestoredFed seen_of q) (runners_of c.args.runners.now) c.fed.i one
          c.fed.held.live c.put.new.self.live _ c.get-outer.ensures before.0
          (record { outer = refl; runner = c.in_ok-runner.ensures }) c.put.ensures.live,
      c.put.ensures.idle ∙ before.1,
      c.put.ensures.room ∙ before.2,
      before.3,
    )

pub runners::live_runners-returns-clause-live : goal.runners::live_runners-returns-clause-live
runners::live_runners-returns-clause-live t c =
    let all = c.fed.invariant.3 in
    let end = c.fed-test.false in
    zip_done (IsRestoredFed seen_of (plain_of c.args.query.now.shape))
    (runners_of c.args.runners.now) c.fed.i c.fed.held.live (omega (arith, all, end))
    c.fed.invariant.0

-- ---- the runners for keys

pub keys::put_keys-add-requires : goal.keys::put_keys-add-requires
keys::put_keys-add-requires t c =
    let dumps = keys_of c.args.dumps.now in
    let one : Keyed = record {
      key = c.get.result.0.now;
      runner = plain_runner c.get.result.1.now;
    } in
    record {
      fresh = key_fresh (map (λ (dump : Keyed). dump.key) dumps) (names_of c.keys.keys) c.keys.i
          one.key c.requires.distinct c.keys.invariant.1
          (part_read (λ (dump : Keyed). dump.key) dumps c.keys.i one c.get.ensures);
    }

pub keys::put_keys-keys-preserved : goal.keys::put_keys-keys-preserved
keys::put_keys-keys-preserved t c =
    let q = plain_of c.args.query.now.shape in
    let dumps = keys_of c.args.dumps.now in
    let before = c.keys.invariant in
    let one : Keyed = record {
      key = c.get.result.0.now;
      runner = plain_runner c.get.result.1.now;
    } in
    let put = c.in_ok-add.ensures.ok in (
      c.add.ensures.fallback ∙ before.0,
      ap (λ (keyed : Followers Progress). keyed.names) put
          ∙ ap (λ (names : List (List ℕ)). names ++ one.key ∷ []) before.1
          ∙ sym (take_one (map (λ (dump : Keyed). dump.key) dumps) c.keys.i one.key
          (part_read (λ (dump : Keyed). dump.key) dumps c.keys.i one c.get.ensures)),
      zip_more (λ (dump : Keyed) (r : Progress). IsRestoredRunner seen_of None q dump.runner r)
          dumps
          c.keys.i one (followers_of c.keys.keys) (followers_of c.add.new.self) _ c.get.ensures
          before.2 c.in_ok-runner.ensures
          (ap (λ (keyed : Followers Progress). keyed.followers) put),
      before.3,
    )

pub keys::put_keys-returns-clause-names : goal.keys::put_keys-returns-clause-names
keys::put_keys-returns-clause-names t c =
    let names = map (λ (dump : Keyed). dump.key) (keys_of c.args.dumps.now) in
    let all = c.keys.invariant.3 in
    let end = c.keys-test.false in
    let count = length-map (keys_of c.args.dumps.now) (λ (dump : Keyed). dump.key) in
    c.keys.invariant.1 ∙ take_all c.keys.i names (omega (arith, all, end, count))

pub keys::put_keys-returns-clause-keyed : goal.keys::put_keys-returns-clause-keyed
keys::put_keys-returns-clause-keyed t c =
    let q = plain_of c.args.query.now.shape in
    let all = c.keys.invariant.3 in
    let end = c.keys-test.false in
    zip_done (λ (dump : Keyed) (r : Progress). IsRestoredRunner seen_of None q dump.runner r)
    (keys_of c.args.dumps.now) c.keys.i (followers_of c.keys.keys) (omega (arith, all, end))
    c.keys.invariant.2

pub keys::restored_keys-returns-in-Ok : goal.keys::restored_keys-returns-in-Ok
keys::restored_keys-returns-in-Ok t c = record {
  fallback = subst
      (IsRestoredRunner seen_of None (plain_of c.args.query.now.shape)
      (plain_runner c.args.fallback.now))
      (sym (c.put_keys.ensures.fallback ∙ c.new-keys.ensures.fallback))
      c.in_ok-fallback.ensures;
  names = c.in-Ok.ensures.names;
  keyed = c.in-Ok.ensures.keyed;
}

-- ---- the starts of a collect

pub tracks::put_tracks-put-requires-clause-fresh : goal.tracks::put_tracks-put-requires-clause-fresh
tracks::put_tracks-put-requires-clause-fresh t c =
    let one : Track = record {
      start = c.get-start.result.0;
      state = c.get-start.result.1;
      fallback = plain_runner c.get-start.result.2.now;
      keys = plain_keys c.get-start.result.3.now;
    } in
    start_fresh seen_of (plain_of c.args.query.now.shape) (tracks_of c.args.dumps.now) c.tracks.i
    one c.tracks.tracks.tracks c.requires.distinct c.get-start.ensures c.tracks.invariant.1

pub tracks::put_tracks-put-requires-clause-state : goal.tracks::put_tracks-put-requires-clause-state
tracks::put_tracks-put-requires-clause-state t c =
    subst (λ (nfa : Automaton). IsStateOf nfa.sets c.get-start.result.1)
    (sym c.tracks.invariant.0)
    (all_read (λ (one : Track). IsStateOf c.args.tracks.now.nfa.sets one.state)
    (tracks_of c.args.dumps.now) c.tracks.i _ c.requires.states c.get-start.ensures)

pub tracks::put_tracks-tracks-preserved : goal.tracks::put_tracks-tracks-preserved
tracks::put_tracks-tracks-preserved t c =
    let before = c.tracks.invariant in
    let one : Track = record {
      start = c.get-start.result.0;
      state = c.get-start.result.1;
      fallback = plain_runner c.get-start.result.2.now;
      keys = plain_keys c.get-start.result.3.now;
    } in (
      c.put.ensures.nfa ∙ before.0,
      zip_more (IsRestoredTrack seen_of (plain_of c.args.query.now.shape))
          (tracks_of c.args.dumps.now) c.tracks.i one c.tracks.tracks.tracks
          c.put.new.self.tracks _ c.get-start.ensures before.1
          (record { start = refl; state = refl; keys = c.in_ok-keys.ensures })
          c.in_ok-put.ensures.ok,
      before.2,
    )

pub tracks::put_tracks-returns-clause-tracks : goal.tracks::put_tracks-returns-clause-tracks
tracks::put_tracks-returns-clause-tracks t c =
    let all = c.tracks.invariant.2 in
    let end = c.tracks-test.false in
    zip_done (IsRestoredTrack seen_of (plain_of c.args.query.now.shape))
    (tracks_of c.args.dumps.now) c.tracks.i c.tracks.tracks.tracks (omega (arith, all, end))
    c.tracks.invariant.1

pub tracks::restored_tracks-put_tracks-requires : goal.tracks::restored_tracks-put_tracks-requires
tracks::restored_tracks-put_tracks-requires t c = (
  search rules,
  (
    c.in_ok-tracks.ensures.none,
    (
      c.requires.query,
      (
        c.requires.distinct,
        (
          states_of_rate (rates.plain_of c.args.rate.now) c.in_ok-tracks.tracks.nfa.sets
              (tracks_of c.args.dumps.now) c.in_ok-tracks.ensures.rate c.requires.states,
          c.requires.room,
        ),
      ),
    ),
  ),
)

pub tracks::restored_tracks-returns-in-Ok-clause-rate :
    goal.tracks::restored_tracks-returns-in-Ok-clause-rate
tracks::restored_tracks-returns-in-Ok-clause-rate t c =
    subst (λ (nfa : Automaton). AreSetsOf nfa.sets (rates.plain_of c.args.rate.now))
    (sym c.put_tracks.ensures.nfa) c.in_ok-tracks.ensures.rate

pub tracks::restored_tracks-returns-in-Ok-clause-columns :
    goal.tracks::restored_tracks-returns-in-Ok-clause-columns
tracks::restored_tracks-returns-in-Ok-clause-columns t c = λ columns on.
    subst (λ (nfa : Automaton). nfa.cells.layout.columns ≡ columns)
    (sym c.put_tracks.ensures.nfa) (c.in_ok-tracks.ensures.columns columns on)

-- ---- nodes of each shape

pub operands::restored_choice-returns : goal.operands::restored_choice-returns
operands::restored_choice-returns t c =
    choice_back seen_of _ _ _ _ _ _ _ c.in_ok-a.ensures c.in_ok-b.ensures

pub operands::restored_combine-returns : goal.operands::restored_combine-returns
operands::restored_combine-returns t c = λ e.
    combine_back seen_of _ _ _ _ _ _ _ c.in_ok-a.ensures c.in_ok-b.ensures e

pub operands::restored_apply-returns : goal.operands::restored_apply-returns
operands::restored_apply-returns t c = λ e. apply_back seen_of _ _ _ _ c.in_ok-a.ensures e

pub operands::restored_split-restored_entries-requires :
    goal.operands::restored_split-restored_entries-requires
operands::restored_split-restored_entries-requires t c =
    subst (λ (room : ℕ). AreFewWaiting room c.args.entries.now)
    (sym (all_places (plain_of c.args.right.now.shape) c.places.result c.requires.right.small
    c.places.ensures)) c.requires.entries

pub operands::restored_split-returns : goal.operands::restored_split-returns
operands::restored_split-returns t c = λ e.
    let f = plain_of c.args.left.now.shape in
    let g = plain_of c.args.right.now.shape in
    let a = holding_of c.in_ok-a.a.value.state in
    let b = holding_of c.in_ok-b.b.value.state in
    let room = all_places g c.places.result c.requires.right.small c.places.ensures in
    restored_as seen_of _ _ _ _ _ _ _ refl refl
    (ap (λ (held : Contents Value). split_held a b held) c.in_ok-held.ensures)
    (split_back seen_of _ f g _ _ a b c.in_ok-a.ensures c.in_ok-b.ensures e c.places.result
    c.args.entries.now room)

pub operands::restored_iter-restored_entries-requires :
    goal.operands::restored_iter-restored_entries-requires
operands::restored_iter-restored_entries-requires t c =
    subst (λ (room : ℕ). AreFewWaiting room c.args.entries.now)
    (sym (all_places (plain_of c.args.inner.now.shape) c.places.result c.requires.inner.small
    c.places.ensures)) c.requires.entries

pub operands::restored_iter-returns : goal.operands::restored_iter-returns
operands::restored_iter-returns t c = λ number e.
    let f = plain_of c.args.inner.now.shape in
    let a = holding_of c.in_ok-a.a.value.state in
    let room = all_places f c.places.result c.requires.inner.small c.places.ensures in
    restored_as seen_of _ _ _ _ _ _ _ refl refl
    (ap (λ (held : Contents Value). iter_held a held)
    (c.from_pending-so_far.ensures ∙ c.in_ok-restored_entries.ensures))
    (iter_back seen_of _ f _ a c.in_ok-a.ensures number e c.places.result c.args.entries.now room)

pub operands::restored_compose-live_runners-requires :
    goal.operands::restored_compose-live_runners-requires
operands::restored_compose-live_runners-requires t c =
    let g = plain_of c.args.right.now.shape in
    let room = runners_fit (plain_of c.args.left.now.shape) c.places.result
    c.saturating_add.result c.requires.left.small c.places.ensures c.saturating_add.ensures in (
      search rules,
      (
        c.requires.right,
        subst (λ (room : ℕ). AreFewFed (HasRoom g) room (runners_of c.args.runners.now)) (sym room)
            c.requires.runners,
      ),
    )

pub operands::restored_compose-returns : goal.operands::restored_compose-returns
unfolding roll-State out-State denote.Hole.Carrier.roll denote.Hole.Carrier.out
operands::restored_compose-returns t c =
    let f = plain_of c.args.left.now.shape in
    let g = plain_of c.args.right.now.shape in
    let a = c.in_ok-a.a in
    let held = c.rest_in_other_places.new.held in
    let same = c.rest_in_other_places.ensures.same in
    let full = c.in_ok-rest_in_other_places.ensures.full ∙ same.1 ∙ c.in_ok-held.ensures.room
    ∙ runners_fit f c.places.result c.saturating_add.result c.requires.left.small c.places.ensures
    c.saturating_add.ensures in
    restored_as seen_of _ _ _ _ _ _ _ refl refl (fed_is a held)
    (compose_back seen_of _ f g _ (plain_runners c.args.runners.now) (holding_of a.value.state)
    held c.in_ok-a.ensures
    (subst (AllZip (IsRestoredFed seen_of g) (runners_of c.args.runners.now)) (sym same.0)
    c.in_ok-held.ensures.live)
    full c.in_ok-rest_in_other_places.ensures.sound c.in_ok-rest_in_other_places.ensures.few)

pub operands::restored_collect-returns : goal.operands::restored_collect-returns
unfolding roll-State out-State denote.Hole.Carrier.roll denote.Hole.Carrier.out
operands::restored_collect-returns t c = λ chosen sync small.
    let f = plain_of c.args.inner.now.shape in
    let all = c.in_ok-tracks.tracks in
    restored_as seen_of _ _ _ _ _ _ _ refl refl (tracked_is all c.new.result)
    (collect_back seen_of _ chosen sync (rates.plain_of c.args.rate.now) f
    (plain_tracks c.args.tracks.now) all c.in_ok-tracks.ensures.rate c.in_ok-tracks.ensures.columns
    small c.in_ok-tracks.ensures.tracks)

-- ---- a node by the shape of the query

pub nodes::restored_node-returns-in-Atom-dump : goal.nodes::restored_node-returns-in-Atom-dump
nodes::restored_node-returns-in-Atom-dump t c =
    restored_as seen_of _ _ _ _ _ _ _ (ap plain_of c.in-Atom.is) (ap plain_node c.in-Atom-dump.is)
    refl
    (c.restored_atom.ensures _ (predicates.plain_of c.in-Atom.field-0)
    (values.plain_of c.in-Atom.field-1))
