use Rattle.std.proofs.Common.{ap}
use Rattle.stream_run.specs.Outside.{outside}
use Rattle.stream_run.specs.Sessions.{origin_of}
use Rattle.stream_run.proofs.PlainEnds.{plain_end_from}
use Rattle.stream_run.proofs.run_loop.run.Goals as goal

-- the session begins before the first line
pub returns-clause-ended : goal.returns-clause-ended
returns-clause-ended g c =
    let at = outside g.S.Source.left g.S.Source.ends g.W.Sink.taken in
    plain_end_from g.F.Follower.follows c.args.checked.now c.args.follower c.requires.word
    (at c.args.items.now c.args.out.now) (at c.run_on.new.items c.run_on.new.out)
    (origin_of c.begin-session.result) (ap origin_of c.begin-session.ensures) c.run_on.result
    c.run_on.ensures.ended
