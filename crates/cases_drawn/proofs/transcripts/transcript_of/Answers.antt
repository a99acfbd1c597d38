use Rattle.std.proofs.Common.{[], arith, ap}
use Rattle.stream_run.proofs.Sessions.{ready_begins}
use Rattle.cases_drawn.proofs.transcripts.transcript_of.Goals as goal

pub lines-init : goal.lines-init
lines-init g c =
    let f = g.F.Follower in
    let laws = g.met.F.Follower in
    let begins = c.begin-session.ensures in
    let kept = ap (λ s. s.follower) begins in
    record {
      ready =
          ready_begins f.query f.columns f.lost f.sound _ _ _ (ap (λ s. s.checked.now) begins) kept
          c.requires.query c.requires.columns (laws.lost_follows _ [] c.requires.word)
          (laws.follows_sound _ [] c.requires.word);
      count = omega (arith, ap f.position kept, laws.at_end _ [] c.requires.word);
    }
