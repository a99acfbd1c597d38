use Rattle.std.proofs.Common.{◌≡◌, ◌+◌, ◌*◌, eqb, length, max}
use Rattle.std.specs.Str.{bytes_eq}
use Rattle.query_model.specs.declared.query.Query.{size-Query}
use Rattle.query_model.specs.Queries.{plain_of}
use Rattle.query_model.specs.QueryTypes.{type_of}
use Rattle.rate_expr.specs.Plain as rates
use Rattle.runner_snapshot.specs.Dumps.{Fed, Keyed, Track}
use Rattle.runner_snapshot.specs.Plain.{keys_of, runners_of, tracks_of}
use Rattle.eval_snapshot.specs.Fits.{FitsFed, FitsNode, FitsRunner, FitsTrack}
use Rattle.dump_fits.specs.Streams.{columns_of}
use Rattle.dump_fits.proofs.Gathered.{SoFar}
use Rattle.dump_fits.proofs.+fit.Given as goal

abbrev pub invariant-instances::fit_instances-runners :
    goal.invariant-instances::fit_instances-runners
invariant-instances::fit_instances-runners l =
    (l.i-end ≡ length (runners_of l.runners))
    × SoFar eqb (λ (one : Fed). one.outer)
    (FitsFed (FitsNode (columns_of l.stream) (plain_of l.query.shape))
    (type_of (columns_of l.stream) (plain_of l.query.shape)) l.position)
    (runners_of l.runners) l.i l.outers.keys

abbrev pub invariant-tracks::fit_tracks-tracks : goal.invariant-tracks::fit_tracks-tracks
invariant-tracks::fit_tracks-tracks l =
    (l.i-end ≡ length (tracks_of l.tracks))
    × SoFar eqb (λ (one : Track). one.start)
    (FitsTrack (FitsNode (columns_of l.stream) (plain_of l.query.shape))
    (type_of (columns_of l.stream) (plain_of l.query.shape)) (rates.plain_of l.rate) l.position)
    (tracks_of l.tracks) l.i l.starts.keys

abbrev pub invariant-tracks::fit_keys-keys : goal.invariant-tracks::fit_keys-keys
invariant-tracks::fit_keys-keys l =
    (l.i-end ≡ length (keys_of l.keys))
    × SoFar bytes_eq (λ (one : Keyed). one.key)
    (λ (one : Keyed). FitsRunner l.position
    (FitsNode (columns_of l.stream) (plain_of l.query.shape))
    (type_of (columns_of l.stream) (plain_of l.query.shape)) one.runner)
    (keys_of l.keys) l.i l.names.keys

-- how deep the query is; at one query those that call others stand above them
abbrev pub decreases-nodes::fits_node : goal.decreases-nodes::fits_node
decreases-nodes::fits_node l = 6 * size-Query l.query.now

abbrev pub decreases-runners::fits_runner : goal.decreases-runners::fits_runner
decreases-runners::fits_runner l = 6 * size-Query l.query.now + 1

abbrev pub decreases-instances::fits_instance : goal.decreases-instances::fits_instance
decreases-instances::fits_instance l = 6 * size-Query l.query.now + 2

abbrev pub decreases-instances::fit_instances : goal.decreases-instances::fit_instances
decreases-instances::fit_instances l = 6 * size-Query l.query.now + 3

abbrev pub decreases-tracks::fit_keys : goal.decreases-tracks::fit_keys
decreases-tracks::fit_keys l = 6 * size-Query l.query.now + 2

abbrev pub decreases-tracks::fits_track : goal.decreases-tracks::fits_track
decreases-tracks::fits_track l = 6 * size-Query l.query.now + 3

abbrev pub decreases-tracks::fit_tracks : goal.decreases-tracks::fit_tracks
decreases-tracks::fit_tracks l = 6 * size-Query l.query.now + 4

abbrev pub decreases-nodes::fits_choice : goal.decreases-nodes::fits_choice
decreases-nodes::fits_choice l = 6 * max (size-Query l.left.now) (size-Query l.right.now) + 5

abbrev pub decreases-nodes::fits_combine : goal.decreases-nodes::fits_combine
decreases-nodes::fits_combine l = 6 * max (size-Query l.left.now) (size-Query l.right.now) + 5

abbrev pub decreases-nodes::fits_split : goal.decreases-nodes::fits_split
decreases-nodes::fits_split l = 6 * max (size-Query l.left.now) (size-Query l.right.now) + 5

abbrev pub decreases-nodes::fits_compose : goal.decreases-nodes::fits_compose
decreases-nodes::fits_compose l = 6 * max (size-Query l.left.now) (size-Query l.right.now) + 5

abbrev pub decreases-nodes::fits_apply : goal.decreases-nodes::fits_apply
decreases-nodes::fits_apply l = 6 * size-Query l.inner.now + 5

abbrev pub decreases-nodes::fits_iter : goal.decreases-nodes::fits_iter
decreases-nodes::fits_iter l = 6 * size-Query l.inner.now + 5

abbrev pub decreases-nodes::fits_collect : goal.decreases-nodes::fits_collect
decreases-nodes::fits_collect l = 6 * size-Query l.inner.now + 5
