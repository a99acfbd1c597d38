use Rattle.std.proofs.Common.{◌++◌, [], ◌∷◌, ap, ◌∙◌}
use Rattle.runner_snapshot.specs.declared.tracks.TrackDump.{roll-TrackDump}
use Rattle.runner_snapshot.specs.declared.tracks.TrackDumps.{out-TrackDumps}
use Rattle.runner_snapshot.specs.Plain.{tracks_of}
use Rattle.runner_snapshot.proofs.Rows.{track_of, tracks_are, tracks_made, at_err, seen_more}
use Rattle.runner_snapshot.proofs.Rows.{seen_same, track_made}
use Rattle.runner_snapshot.proofs.tracks.TrackDumps.push.Goals as goal

pub returns-in_err-push-clause-err : goal.returns-in_err-push-clause-err
returns-in_err-push-clause-err c =
    at_err c.from_residual.result (seen_same track_of (tracks_of c.args.self.now) _
    (out-TrackDumps c.args.self.now).tracks.items c.push.new.self.items (tracks_are c.args.self.now)
    (tracks_made c.push.new.self) c.in_err-push.ensures.items)

pub returns-clause-ok : goal.returns-clause-ok
returns-clause-ok c =
    seen_more track_of (tracks_of c.args.self.now) _ (out-TrackDumps c.args.self.now).tracks.items
    c.push.new.self.items (roll-TrackDump (record {
      start = c.args.start;
      state = c.args.state;
      fallback = c.args.fallback;
      keys = c.args.keys;
    })) (tracks_are c.args.self.now)
    (tracks_made c.push.new.self) c.in_ok-push.ensures.items
    ∙ ap (λ one. tracks_of c.args.self.now ++ one ∷ [])
    (track_made c.args.start c.args.state c.args.fallback c.args.keys)
