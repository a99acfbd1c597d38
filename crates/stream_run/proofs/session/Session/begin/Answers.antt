use Rattle.std.proofs.Common.{[], arith}
use Rattle.stream_run.proofs.session.Session.begin.Goals as goal

pub resume-requires-clause-found : goal.resume-requires-clause-found
resume-requires-clause-found g c =
    let laws = g.met.F.Follower in
    (laws.lost_follows _ [] c.requires.word, laws.follows_sound _ [] c.requires.word)

pub resume-requires-clause-room : goal.resume-requires-clause-room
resume-requires-clause-room g c =
    omega (arith, g.met.F.Follower.at_end _ [] c.requires.word)
