use Rattle.std.proofs.Common.{ap, map, ◌∙◌}
use Rattle.runner_snapshot.proofs.Rows.{track_of, tracks_made}
use Rattle.runner_snapshot.proofs.tracks.TrackDumps.new.Goals as goal

pub returns : goal.returns
returns c = tracks_made c.new.result ∙ ap (map track_of) c.new.ensures.items
