use Rattle.query_model.specs.Monitors.{monitor_of}
use Rattle.shard_run.proofs.Outcomes.{replied_piece}
use Rattle.shard_run.proofs.engine.carry_out.Goals as goal

pub returns-in-Text-clause-outcome : goal.returns-in-Text-clause-outcome
returns-in-Text-clause-outcome g c text accepted =
    rw c.in-Text.is (replied_piece c.in-Text.piece (monitor_of c.args.checked.now)
    c.args.checked.now.main.span text accepted _ _ _ _ c.piece_reply.ensures
    c.write_reply.ensures.replied)

pub returns-in-Route-clause-outcome : goal.returns-in-Route-clause-outcome
returns-in-Route-clause-outcome g c = rw c.in-Route.is c.route.ensures.outcome
