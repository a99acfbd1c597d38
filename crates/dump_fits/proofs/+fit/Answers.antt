use Rattle.std.proofs.Common.{◌∙◌, ℕ, List, ap, arith, eqb, not, subst, sym}
use Rattle.std.specs.List.{list_any}
use Rattle.std.specs.Str.{bytes_eq}
use Rattle.std.proofs.lemmas.Bool.{iff_false}
use Rattle.std.proofs.lemmas.Cmp.{nat_eq_equiv, nat_list_eq_equiv}
use Rattle.indexmap.specs.IndexSet.{insert_key}
use Rattle.predicates.specs.Plain as predicates
use Rattle.expressions.specs.Expressions as values
use Rattle.value_ops.specs.declared.value.ValueType.{ValueType}
use Rattle.value_ops.specs.declared.value.ValueType.TheVariants.{Number}
use Rattle.rate_expr.specs.Plain as rates
use Rattle.query_model.specs.Bounds.{places_of}
use Rattle.query_model.specs.Queries.{plain_of}
use Rattle.query_model.specs.QueryTypes.{type_of}
use Rattle.eval_nodes.proofs.Made.{all_places}
use Rattle.runner_snapshot.specs.Dumps.{Fed, Keyed, Track}
use Rattle.runner_snapshot.specs.Plain.{keys_of, plain_keys, plain_node, plain_runner, runners_of}
use Rattle.runner_snapshot.specs.Plain.{tracks_of}
use Rattle.runner_snapshot.specs.declared.dump.NodeDump.{NodeDump}
use Rattle.eval_snapshot.specs.Fits.{FitsFed, FitsNode, FitsRunner, FitsTrack, FitWaiting}
use Rattle.dump_fits.specs.Streams.{columns_of}
use Rattle.dump_fits.proofs.Gathered.{all_at, all_read, clashes, different_of, distinct_of, gathers}
use Rattle.dump_fits.proofs.Told.{told_both, told_never, told_no, told_of, told_three}
use Rattle.dump_fits.proofs.Told.{told_yes}
use Rattle.dump_fits.proofs.+fit.Goals as goal
use Rattle.dump_fits.proofs.+fit.Goals.{nodes::fits_compose-else-len-places}
use Rattle.dump_fits.proofs.+fit.Goals.{nodes::fits_compose-then-len-places+in_ok-fits_node-in-Compose}
use Rattle.dump_fits.proofs.+fit.Goals.{nodes::fits_split-else-branch}
use Rattle.dump_fits.proofs.+fit.Goals.{nodes::fits_split-then-branch+in_ok-fits_node-in-Split-2}
use Rattle.dump_fits.proofs.+fit.Goals.{tracks::fit_keys-then-dump-position-via-then-dump-position}
use Rattle.dump_fits.proofs.+fit.Goals.{tracks::fit_keys-then-dump-position-via-else-dump-position+in_ok-fits_runner+then-not-branch-2}

pub nodes::fits_node-returns-in-Atom : goal.nodes::fits_node-returns-in-Atom
nodes::fits_node-returns-in-Atom t c =
    let columns = columns_of c.args.stream.now in
    told_of c.fits_atom.result columns _ _ c.args.position _ (ap plain_of c.in-Atom.is)
    (c.fits_atom.ensures columns (predicates.plain_of c.in-Atom.field-0)
    (values.plain_of c.in-Atom.field-1))

pub nodes::fits_node-returns-in-Eps : goal.nodes::fits_node-returns-in-Eps
nodes::fits_node-returns-in-Eps t c =
    let columns = columns_of c.args.stream.now in
    told_of c.fits_eps.result columns _ _ c.args.position _ (ap plain_of c.in-Eps.is)
    (c.fits_eps.ensures columns c.in-Eps.field-0 c.args.position)

pub nodes::fits_iter-returns-in_ok-fit_waiting-in-Iter :
    goal.nodes::fits_iter-returns-in_ok-fit_waiting-in-Iter
nodes::fits_iter-returns-in_ok-fit_waiting-in-Iter t c = λ number expression.
    let columns = columns_of c.args.stream.now in
    let f = plain_of c.args.inner.now.shape in
    let entries = c.in-Iter.entries in
    let room = all_places f c.places.result c.requires c.places.ensures in
    rw c.in-Iter.is
    (told_both c.in_ok-fit_waiting-in-Iter.field-0 _
    (FitWaiting Number c.places.result c.args.position entries)
    (FitWaiting Number (places_of f) c.args.position entries)
    (subst (λ (node : NodeDump). FitsNode columns f c.args.position (plain_node node))
    c.deref.ensures (c.in_ok-fits_node-in-Iter.ensures.0 c.if-branch.true))
    (subst (λ (n : ℕ). FitWaiting Number n c.args.position entries) room)
    (subst (λ (n : ℕ). FitWaiting Number n c.args.position entries) (sym room))
    c.in_ok-fit_waiting-in-Iter.ensures)

pub nodes::fits_split-returns-in_ok-fit_waiting-in-Split :
    goal.nodes::fits_split-returns-in_ok-fit_waiting-in-Split
nodes::fits_split-returns-in_ok-fit_waiting-in-Split t c = λ expression.
    let columns = columns_of c.args.stream.now in
    let f = plain_of c.args.left.now.shape in
    let g = plain_of c.args.right.now.shape in
    let entries = c.in-Split.entries in
    let room = all_places g c.places.result c.requires.second c.places.ensures in
    let type = c.value_type.ensures in
    rw c.in-Split.is (elim c.if-branch.branch [
      | nodes::fits_split-then-branch+in_ok-fits_node-in-Split-2 w ↦
          told_three c.in_ok-fit_waiting-in-Split.field-0 _ _
          (FitWaiting c.value_type.result c.places.result c.args.position entries)
          (FitWaiting (type_of columns f) (places_of g) c.args.position entries)
          (subst (λ (node : NodeDump). FitsNode columns f c.args.position (plain_node node))
          c.deref.ensures (c.in_ok-fits_node-in-Split.ensures.0 w.if-branch.true))
          (subst (λ (node : NodeDump). FitsNode columns g c.args.position (plain_node node))
          w.deref-then-branch.ensures
          (w.in_ok-fits_node-in-Split-2.ensures.0 (sym w.value-is ∙ c.if-branch-2.true)))
          (λ it. subst (λ (ty : ValueType). FitWaiting ty (places_of g) c.args.position entries)
          type (subst (λ (n : ℕ). FitWaiting c.value_type.result n c.args.position entries) room
          it))
          (λ it. subst (λ (n : ℕ). FitWaiting c.value_type.result n c.args.position entries)
          (sym room) (subst (λ (ty : ValueType). FitWaiting ty (places_of g) c.args.position
          entries) (sym type) it))
          c.in_ok-fit_waiting-in-Split.ensures
      | nodes::fits_split-else-branch w ↦
          let never : ⊥ = cc (w.value-is, w.if-branch.false, c.if-branch-2.true) in absurd never
    ])

pub nodes::fits_compose-returns-else-branch : goal.nodes::fits_compose-returns-else-branch
nodes::fits_compose-returns-else-branch t c =
    let columns = columns_of c.args.stream.now in
    let f = plain_of c.args.left.now.shape in
    let room = all_places f c.places.result c.requires.first c.places.ensures in
    rw c.in-Compose.is (told_never c.if-len-places.value _ c.if-branch.false (λ fits.
    elim c.if-len-places.branch [
      | nodes::fits_compose-then-len-places+in_ok-fits_node-in-Compose w ↦
          iff_false w.in_ok-fits_node-in-Compose.ensures (sym w.value-is ∙ c.if-branch.false)
          (subst (λ (node : NodeDump). FitsNode columns f c.args.position (plain_node node))
          (sym w.deref.ensures) fits.0)
      | nodes::fits_compose-else-len-places w ↦
          let few = fits.1 in
          let past = w.if-len-places.false in
          let count = c.len.ensures in
          omega (arith, few, past, count, room)
    ]))

pub instances::fit_instances-returns-then-not-branch :
    goal.instances::fit_instances-returns-then-not-branch
instances::fit_instances-returns-then-not-branch t c =
    let columns = columns_of c.args.stream.now in
    let q = plain_of c.args.query.now.shape in
    let one : Fed = record {
      outer = c.get-outer.result.0;
      runner = plain_runner c.get-outer.result.1.now;
    } in
    told_no _ (λ fit. clashes eqb nat_eq_equiv (λ (e : Fed). e.outer)
    (FitsFed (FitsNode columns q) (type_of columns q) c.args.position)
    (runners_of c.args.runners.now) c.runners.i one c.runners.outers.keys c.in_ok-insert.field-0
    c.runners.invariant.1 c.get-outer.ensures c.in_ok-insert.ensures.added c.if-not-branch.true
    (distinct_of _ fit.0))

pub instances::fit_instances-returns-then-not-branch-2 :
    goal.instances::fit_instances-returns-then-not-branch-2
instances::fit_instances-returns-then-not-branch-2 t c =
    let columns = columns_of c.args.stream.now in
    let q = plain_of c.args.query.now.shape in
    told_no _ (λ fit. iff_false c.in_ok-fits_instance.ensures c.if-not-branch-2.true
    (all_at (FitsFed (FitsNode columns q) (type_of columns q) c.args.position)
    (runners_of c.args.runners.now) c.runners.i _ c.get-outer.ensures fit.1))

pub instances::fit_instances-runners-preserved : goal.instances::fit_instances-runners-preserved
instances::fit_instances-runners-preserved t c =
    let columns = columns_of c.args.stream.now in
    let q = plain_of c.args.query.now.shape in
    let one : Fed = record {
      outer = c.get-outer.result.0;
      runner = plain_runner c.get-outer.result.1.now;
    } in (
      c.runners.invariant.0,
      gathers eqb nat_eq_equiv (λ (e : Fed). e.outer)
          (FitsFed (FitsNode columns q) (type_of columns q) c.args.position)
          (runners_of c.args.runners.now) c.runners.i one c.runners.outers.keys
          c.in_ok-insert.field-0 c.runners.invariant.1 c.get-outer.ensures
          c.in_ok-insert.ensures.added c.insert.new.self.keys c.in_ok-insert.ensures.keys
          c.if-not-branch.false (c.in_ok-fits_instance.ensures.0 c.if-not-branch-2.false),
    )

pub instances::fit_instances-returns : goal.instances::fit_instances-returns
instances::fit_instances-returns t c =
    let columns = columns_of c.args.stream.now in
    let q = plain_of c.args.query.now.shape in
    let count = c.runners.invariant.0 in
    let end = c.runners-test.false in
    let read = all_read eqb nat_eq_equiv (λ (e : Fed). e.outer)
    (FitsFed (FitsNode columns q) (type_of columns q) c.args.position)
    (runners_of c.args.runners.now) c.runners.i c.runners.outers.keys
    (omega (arith, count, end)) c.runners.invariant.1 in
    told_yes _ (different_of _ read.0, read.1)

pub tracks::fit_tracks-returns : goal.tracks::fit_tracks-returns
tracks::fit_tracks-returns t c =
    let columns = columns_of c.args.stream.now in
    let q = plain_of c.args.query.now.shape in
    let count = c.tracks.invariant.0 in
    let end = c.tracks-test.false in
    let read = all_read eqb nat_eq_equiv (λ (e : Track). e.start)
    (FitsTrack (FitsNode columns q) (type_of columns q) (rates.plain_of c.args.rate.now)
    c.args.position) (tracks_of c.args.tracks.now) c.tracks.i c.tracks.starts.keys
    (omega (arith, count, end)) c.tracks.invariant.1 in
    told_yes _ (different_of _ read.0, read.1)

pub tracks::fit_tracks-returns-then-not-branch : goal.tracks::fit_tracks-returns-then-not-branch
tracks::fit_tracks-returns-then-not-branch t c =
    let columns = columns_of c.args.stream.now in
    let q = plain_of c.args.query.now.shape in
    let one : Track = record {
      start = c.get.result.0;
      state = c.get.result.1;
      fallback = plain_runner c.get.result.2.now;
      keys = plain_keys c.get.result.3.now;
    } in
    told_no _ (λ fit. clashes eqb nat_eq_equiv (λ (e : Track). e.start)
    (FitsTrack (FitsNode columns q) (type_of columns q) (rates.plain_of c.args.rate.now)
    c.args.position) (tracks_of c.args.tracks.now) c.tracks.i one c.tracks.starts.keys
    c.in_ok-insert.field-0 c.tracks.invariant.1 c.get.ensures c.in_ok-insert.ensures.added
    c.if-not-branch.true (distinct_of _ fit.0))

pub tracks::fit_tracks-returns-then-not-branch-2 :
    goal.tracks::fit_tracks-returns-then-not-branch-2
tracks::fit_tracks-returns-then-not-branch-2 t c =
    let columns = columns_of c.args.stream.now in
    let q = plain_of c.args.query.now.shape in
    let one : Track = record {
      start = c.get.result.0;
      state = c.get.result.1;
      fallback = plain_runner c.get.result.2.now;
      keys = plain_keys c.get.result.3.now;
    } in
    told_no _ (λ fit. iff_false (c.in_ok-fits_track.ensures one c.get.ensures) c.if-not-branch-2.true
    (all_at (FitsTrack (FitsNode columns q) (type_of columns q) (rates.plain_of c.args.rate.now)
    c.args.position) (tracks_of c.args.tracks.now) c.tracks.i one c.get.ensures fit.1))

pub tracks::fit_tracks-tracks-preserved : goal.tracks::fit_tracks-tracks-preserved
tracks::fit_tracks-tracks-preserved t c =
    let columns = columns_of c.args.stream.now in
    let q = plain_of c.args.query.now.shape in
    let one : Track = record {
      start = c.get.result.0;
      state = c.get.result.1;
      fallback = plain_runner c.get.result.2.now;
      keys = plain_keys c.get.result.3.now;
    } in (
      c.tracks.invariant.0,
      gathers eqb nat_eq_equiv (λ (e : Track). e.start)
          (FitsTrack (FitsNode columns q) (type_of columns q) (rates.plain_of c.args.rate.now)
          c.args.position) (tracks_of c.args.tracks.now) c.tracks.i one c.tracks.starts.keys
          c.in_ok-insert.field-0 c.tracks.invariant.1 c.get.ensures c.in_ok-insert.ensures.added
          c.insert.new.self.keys c.in_ok-insert.ensures.keys c.if-not-branch.false
          ((c.in_ok-fits_track.ensures one c.get.ensures).0 c.if-not-branch-2.false),
    )

pub tracks::fit_keys-returns-then-not-branch : goal.tracks::fit_keys-returns-then-not-branch
tracks::fit_keys-returns-then-not-branch t c =
    let columns = columns_of c.args.stream.now in
    let q = plain_of c.args.query.now.shape in
    let one : Keyed = record {
      key = c.get.result.0.now;
      runner = plain_runner c.get.result.1.now;
    } in
    let seen = c.keys.names.keys in
    let added = c.in_ok-insert.ensures.added
    ∙ ap (λ (key : List ℕ). not (list_any (bytes_eq key) seen)) c.in_ok-from_slice.ensures in
    told_no _ (λ fit. clashes bytes_eq nat_list_eq_equiv (λ (e : Keyed). e.key)
    (λ (e : Keyed). FitsRunner c.args.position (FitsNode columns q) (type_of columns q) e.runner)
    (keys_of c.args.keys.now) c.keys.i one seen c.in_ok-insert.field-0 c.keys.invariant.1
    c.get.ensures added c.if-not-branch.true fit.0)

pub tracks::fit_keys-returns-then-dump-position : goal.tracks::fit_keys-returns-then-dump-position
tracks::fit_keys-returns-then-dump-position t c =
    let columns = columns_of c.args.stream.now in
    let q = plain_of c.args.query.now.shape in
    let one : Keyed = record {
      key = c.get.result.0.now;
      runner = plain_runner c.get.result.1.now;
    } in
    let all_of_it = all_at
    (λ (e : Keyed). FitsRunner c.args.position (FitsNode columns q) (type_of columns q) e.runner)
    (keys_of c.args.keys.now) c.keys.i one c.get.ensures in
    elim c.then-dump-position.branch [
      | tracks::fit_keys-then-dump-position-via-then-dump-position w ↦ told_no _ (λ fit.
          let within = (all_of_it fit.1).0 in
          let past = w.if-dump-position.true in
          omega (arith, within, past))
      | tracks::fit_keys-then-dump-position-via-else-dump-position+in_ok-fits_runner+then-not-branch-2
          w ↦ told_no _ (λ fit. iff_false
          (w.in_ok-fits_runner.ensures c.args.position w.if-dump-position.false)
          w.if-not-branch-2.true (all_of_it fit.1))
    ]

pub tracks::fit_keys-keys-preserved : goal.tracks::fit_keys-keys-preserved
tracks::fit_keys-keys-preserved t c =
    let columns = columns_of c.args.stream.now in
    let q = plain_of c.args.query.now.shape in
    let one : Keyed = record {
      key = c.get.result.0.now;
      runner = plain_runner c.get.result.1.now;
    } in
    let seen = c.keys.names.keys in
    let added = c.in_ok-insert.ensures.added
    ∙ ap (λ (key : List ℕ). not (list_any (bytes_eq key) seen)) c.in_ok-from_slice.ensures in
    let keys = c.in_ok-insert.ensures.keys
    ∙ ap (λ (key : List ℕ). insert_key bytes_eq seen key) c.in_ok-from_slice.ensures in (
      c.keys.invariant.0,
      gathers bytes_eq nat_list_eq_equiv (λ (e : Keyed). e.key)
          (λ (e : Keyed). FitsRunner c.args.position (FitsNode columns q) (type_of columns q) e.runner)
          (keys_of c.args.keys.now) c.keys.i one seen c.in_ok-insert.field-0 c.keys.invariant.1
          c.get.ensures added c.insert.new.self.keys keys c.if-not-branch.false
          ((c.in_ok-fits_runner.ensures c.args.position c.if-dump-position.false).0
          c.if-not-branch-2.false),
    )
