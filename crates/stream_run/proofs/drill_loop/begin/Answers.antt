use Rattle.std.proofs.Common.{[], ap, subst}
use Rattle.stream_run.specs.Sessions.{IsAfter, Origin, origin_of}
use Rattle.stream_run.specs.SessionLaws.{after_none}
use Rattle.stream_run.proofs.drill_loop.begin.Goals as goal

pub returns-clause-after : goal.returns-clause-after
returns-clause-after g c =
    let f = g.F.Follower in
    let session = c.begin-session.result in
    c.in_ok-take_header.ensures.after c.args.follower
    (subst (λ (o : Origin _). IsAfter f.follows o [] session) (ap origin_of c.begin-session.ensures)
    (after_none f.follows session))
