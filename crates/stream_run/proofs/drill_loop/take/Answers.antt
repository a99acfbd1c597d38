use Rattle.io_edge.specs.Lines.{text}
use Rattle.stream_run.proofs.Sessions.{takes}
use Rattle.stream_run.proofs.Taking.{takes_line, without_lf}
use Rattle.stream_run.proofs.drill_loop.take.Goals as goal

pub returns-clause-takes : goal.returns-clause-takes
returns-clause-takes g c shown is =
    let f = g.F.Follower in
    takes_line f.follows _ shown c.args.session.now c.line.new.self
    (without_lf c.args.line.now shown is).1
    (takes f.follows (text _) c.args.session.now c.line.new.self c.in_ok-_reply.ensures.same
    c.in_ok-_reply.ensures.began c.in_ok-_reply.ensures.follows)
