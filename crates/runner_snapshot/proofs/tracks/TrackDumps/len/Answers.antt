use Rattle.runner_snapshot.specs.declared.tracks.TrackDumps.{out-TrackDumps}
use Rattle.runner_snapshot.specs.Plain.{tracks_of}
use Rattle.runner_snapshot.proofs.Rows.{track_of, tracks_are, seen_count}
use Rattle.runner_snapshot.proofs.tracks.TrackDumps.len.Goals as goal

pub returns : goal.returns
returns c =
    seen_count track_of c.len.result (out-TrackDumps c.args.self.now).tracks (tracks_of
    c.args.self.now)
    c.len.ensures (tracks_are c.args.self.now)
