-- A collect.
use Rattle.std.proofs.Common.{ap, arith, inl, refl, rules, subst, sym, ◌∙◌, inr}
use Rattle.query_model.specs.Queries.{plain_of}
use Rattle.eval_nodes.specs.Plain.{holding_of, seen_of, tracks_of}
use Rattle.eval_nodes.specs.Holdings.{collect_held}
use Rattle.predicates.specs.Plain as predicates
use Rattle.eval_nodes.specs.declared.node.State.TheVariants.{Collect}
use Rattle.eval_nodes.specs.declared.node.State.TheViews.{out-State, roll-State}
use Rattle.eval_nodes.specs.declared.progress.Progress.{Progress}
use Rattle.eval_nodes.proofs.HeldTracks.{tracked_is, tracks_are}
use Rattle.symbolic_nfa.specs.Automata.{Automaton}
use Rattle.map_collect.specs.Tracks as tracks
use Rattle.eval_nodes.proofs.Served.{without_collect}
use Rattle.step_laws.proofs.Arms.{can_start_as, can_step_as, started_as, stepped_as, when_started}
use Rattle.step_laws.proofs.Arms.{when_stepped}
use Rattle.step_laws.specs.Pushes.{BeginsAt, IsFirstTable, IsNew, CanPassBy, IsTabled, PassesBy}
use Rattle.step_laws.proofs.CollectAllowed.{make_allowed, advanced_allowed, pass_allowed}
use Rattle.step_laws.proofs.CollectAllowed.{push_allowed, pushed_end, pushed_next, with_length}
use Rattle.step_laws.proofs.CollectArms.{collect_starts, collect_steps}
use Rattle.step_laws.proofs.CollectBegun.{made_new, start_made}
use Rattle.map_collect.specs.Tracks.{KeepsExtending}
use Rattle.eval_tree.proofs.+step.Goals as goal

abbrev Tracks : Type 0
Tracks = tracks.Contents Progress

pub collect::start_collect-begin_at-requires : goal.collect::start_collect-begin_at-requires
unfolding roll-State out-State denote.Hole.Carrier.roll denote.Hole.Carrier.out
collect::start_collect-begin_at-requires t c =
    let s = c.in-Collect in (
      search rules,
      (
        c.requires.none,
        make_allowed seen_of _ _ _ (plain_of c.args.inner.now.shape) s.tracks c.args.at
            (can_start_as _ _ _ _ c.args.at refl
            (sym (ap holding_of s.is ∙ tracked_is s.tracks s.field-1)) c.requires.can.3),
      ),
    )

pub collect::start_collect-returns : goal.collect::start_collect-returns
unfolding roll-State out-State denote.Hole.Carrier.roll denote.Hole.Carrier.out
collect::start_collect-returns t c = λ chosen sync rate.
    let s = c.in-Collect in
    let f = plain_of c.args.inner.now.shape in
    when_started _ _ _ c.args.at c.begin_at.result c.begin_at.new.hit
    (BeginsAt seen_of f (tracks_of (out-State (Collect s.tracks s.field-1)))
    c.args.at c.begin_at.new.tracks
    c.begin_at.new.hit)
    (λ begins. started_as _ _ _ _ (collect_held c.begin_at.new.tracks) _ c.args.at _ _ refl
    (ap holding_of s.is ∙ tracked_is s.tracks s.field-1)
    (rw s.is (tracked_is c.begin_at.new.tracks s.field-1)) refl
    (collect_starts chosen sync rate f s.tracks c.begin_at.new.tracks c.args.at c.begin_at.new.hit
    (subst
    (λ (all : Tracks). BeginsAt seen_of f all c.args.at c.begin_at.new.tracks c.begin_at.new.hit)
    (tracks_are s.tracks s.field-1) begins))) (rw s.is at c.begin_at.ensures)
    (λ free. absurd free.1.no_collect)

pub collect::begin_at-returns : goal.collect::begin_at-returns
collect::begin_at-returns t c = record {
  puts = c.in_ok-track.ensures;
  first = subst (λ (nfa : Automaton). IsFirstTable nfa.sets c.args.at c.first_table.result)
      c.in_ok-track.ensures.0 c.first_table.ensures;
}

pub collect::track-returns-then-not-can_track : goal.collect::track-returns-then-not-can_track
collect::track-returns-then-not-can_track t c = (
  refl,
  inr (
    (λ can. let is = c.can_track.ensures.1 can in let not_is = c.if-not-can_track.true in cc),
    refl,
  ),
)

pub collect::track-returns : goal.collect::track-returns
collect::track-returns t c = (
  c.put.ensures.nfa,
  inl (
    c.can_track.ensures.0 (let not_is = c.if-not-can_track.false in search (rules, not_is)),
    c.new-keys.result,
    record {
      keyed = c.new-keys.ensures.keyed;
      fallback =
          subst (IsNew seen_of (plain_of c.args.query.now.shape)) (sym c.new-keys.ensures.fallback)
          c.in_ok-fresh.ensures;
    },
    c.in_ok-put.ensures.ok,
  ),
)

pub collect::new_runner-new_node-requires-clause-cells :
    goal.collect::new_runner-new_node-requires-clause-cells
collect::new_runner-new_node-requires-clause-cells t c =
    without_collect (plain_of c.args.query.now.shape) c.requires.no_collect

pub collect::new_runner-start_into-requires : goal.collect::new_runner-start_into-requires
collect::new_runner-start_into-requires t c = (
  search rules,
  (
    refl,
    start_made (plain_of c.args.query.now.shape) (holding_of c.in_ok-node.node.state) c.requires
        (λ columns. c.in_ok-node.ensures.sound columns tt),
  ),
)

pub collect::new_runner-returns-in-Ok : goal.collect::new_runner-returns-in-Ok
collect::new_runner-returns-in-Ok t c =
    made_new (plain_of c.args.query.now.shape) (holding_of c.in_ok-node.node.state) _
    c.start_into.new.hit (λ columns. c.in_ok-node.ensures.word columns tt)
    (λ columns. c.in_ok-node.ensures.sound columns tt) c.in-Ok.ensures.word c.in-Ok.ensures.sound
    refl c.value_of.ensures

pub collect::step_collect-pass_by-requires : goal.collect::step_collect-pass_by-requires
unfolding roll-State out-State denote.Hole.Carrier.roll denote.Hole.Carrier.out
collect::step_collect-pass_by-requires t c =
    let s = c.in-Collect in
    let f = plain_of c.args.inner.now.shape in
    let now = c.requires.can.1 in (
      search rules,
      (
        c.requires.none,
        rw s.is (subst (λ (all : Tracks). CanPassBy seen_of f all c.args.item.now)
            (sym (tracks_are s.tracks s.joined))
            (pass_allowed seen_of _ _ _ f s.tracks now c.args.item.now
            (can_step_as _ _ _ _ now c.args.item.now refl
            (sym (ap holding_of s.is ∙ tracked_is s.tracks s.joined)) c.requires.can.2))),
      ),
    )

pub collect::step_collect-returns : goal.collect::step_collect-returns
unfolding roll-State out-State denote.Hole.Carrier.roll denote.Hole.Carrier.out
collect::step_collect-returns t c = λ rate now.
    let s = c.in-Collect in
    let f = plain_of c.args.inner.now.shape in
    let sync = predicates.plain_of c.args.sync.now in
    when_stepped _ _ _ now c.args.item.now c.pass_by.result c.pass_by.new.hit
    (PassesBy seen_of f c.args.columns.now sync c.args.item.now
    (tracks_of (out-State (Collect s.tracks s.joined))) c.pass_by.new.tracks c.pass_by.new.hit)
    (λ passes. stepped_as _ _ _ _ (collect_held c.pass_by.new.tracks) _ now c.args.item.now _ _ refl
    (ap holding_of s.is ∙ tracked_is s.tracks s.joined)
    (tracked_is c.pass_by.new.tracks c.pass_by.new.joined) refl
    (collect_steps c.args.columns.now sync rate f s.tracks c.pass_by.new.tracks now c.args.item.now
    c.pass_by.new.hit
    (subst (λ (all : Tracks). PassesBy seen_of f c.args.columns.now sync c.args.item.now all
    c.pass_by.new.tracks c.pass_by.new.hit)
    (tracks_are s.tracks s.joined) passes))) (rw s.is at c.pass_by.ensures)
    (λ free. absurd free.1.no_collect)

pub collect::pass_by-push_all-requires : goal.collect::pass_by-push_all-requires
collect::pass_by-push_all-requires t c = (
  search rules,
  advanced_allowed seen_of (plain_of c.args.query.now.shape) c.args.item.now
      c.args.tracks.now.nfa.sets c.args.tracks.now.tracks c.advance.new.self.tracks
      c.requires.can.keys c.advance.ensures.advanced,
)

pub collect::pass_by-returns : goal.collect::pass_by-returns
collect::pass_by-returns t c =
    let pushed = c.push_all.new.tracks in
    let same = c.in_ok-push_all.ensures.nfa ∙ c.advance.ensures.nfa in
    record {
      advanced = c.advance.new.self.tracks;
      pushed = pushed.tracks;
      advances = c.advance.ensures.advanced;
      pushes = c.in_ok-push_all.ensures.pushed;
      tabled = subst (λ (nfa : Automaton). IsTabled seen_of
          (record { nfa = nfa; tracks = pushed.tracks }) c.in_ok-hit.field-0)
          same c.in_ok-hit.ensures;
      keeps = subst (λ (nfa : Automaton). KeepsExtending nfa pushed.tracks c.keep.new.self.tracks)
          same c.keep.ensures.kept;
      nfa = c.keep.ensures.nfa ∙ same;
    }

pub collect::push_all-keys_push-requires : goal.collect::push_all-keys_push-requires
collect::push_all-keys_push-requires t c = (
  search rules,
  push_allowed seen_of (plain_of c.args.query.now.shape) c.args.columns.now
      (predicates.plain_of c.args.sync.now) c.args.item.now c.starts.i c.args.tracks.now.tracks
      c.starts.tracks.tracks c.keys_mut.result.now c.requires
      c.starts.invariant.0 c.keys_mut.ensures.value,
)

pub collect::push_all-starts-preserved : goal.collect::push_all-starts-preserved
collect::push_all-starts-preserved t c =
    let before = c.starts.invariant in (
      pushed_next seen_of (plain_of c.args.query.now.shape) c.args.columns.now
          (predicates.plain_of c.args.sync.now) c.args.item.now c.starts.i c.args.tracks.now.tracks
          c.starts.tracks.tracks c.keys_mut.result.now c.keys_push.new.keys before.0
          c.keys_mut.ensures.value c.in_ok-keys_push.ensures.pushed,
      before.1,
      before.2,
      with_length c.starts.tracks.tracks c.starts.i c.keys_push.new.keys ∙ before.3,
    )

pub collect::push_all-returns-clause-pushed : goal.collect::push_all-returns-clause-pushed
collect::push_all-returns-clause-pushed t c =
    let before = c.starts.invariant in
    let over = c.starts-test.false in
    let end = before.2 in
    let many = before.3 in
    pushed_end seen_of (plain_of c.args.query.now.shape) c.args.columns.now
    (predicates.plain_of c.args.sync.now) c.args.item.now c.starts.i c.args.tracks.now.tracks
    c.starts.tracks.tracks before.0 (omega (arith, over, end, many))

pub collect::pass_by-advance-requires : goal.collect::pass_by-advance-requires
collect::pass_by-advance-requires t c = c.requires.can.is_item
