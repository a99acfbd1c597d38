use Rattle.runner_snapshot.specs.declared.tracks.TrackDumps.{out-TrackDumps}
use Rattle.runner_snapshot.specs.Plain.{tracks_of}
use Rattle.runner_snapshot.proofs.Rows.{track_of, tracks_are, seen_at, seen_within}
use Rattle.runner_snapshot.proofs.tracks.TrackDumps.get.Goals as goal

pub index-track-requires : goal.index-track-requires
index-track-requires c =
    seen_within track_of c.args.i (out-TrackDumps c.args.self.now).tracks (tracks_of
    c.args.self.now)
    c.requires (tracks_are c.args.self.now)

pub returns : goal.returns
returns c =
    seen_at track_of c.args.i (out-TrackDumps c.args.self.now).tracks (tracks_of c.args.self.now)
    c.index-track.result.now c.requires (tracks_are c.args.self.now) c.index-track.ensures
