use Rattle.std.proofs.Common.{◌∙◌}
use Rattle.stream_run.proofs.Taking.{next_taken}
use Rattle.stream_run.proofs.drill_loop.take_next.Goals as goal

pub returns-clause-takes : goal.returns-clause-takes
returns-clause-takes g c =
    next_taken g.F.Follower.follows c.args.session.now c.take.new.session c.as_slice.result.now _
    (c.as_slice.ensures ∙ c.in_ok-line.ensures.line) c.take.result c.take.ensures.takes
