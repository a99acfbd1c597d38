use Rattle.query_model.specs.Monitors.{monitor_of}
use Rattle.stream_run.proofs.EndedPart.{ended_so}
use Rattle.shard_run.specs.Call.{carries}
use Rattle.shard_run.specs.Pieces.{whole}
use Rattle.shard_run.specs.Routers.{SaysRoutes}
use Rattle.shard_run.specs.Routes.{AreRoutes, routing_for}
use Rattle.shard_run.specs.Texts.{whole_text}
use Rattle.shard_run.specs.declared.command.Command.TheVariants.{Route}
use Rattle.shard_run.proofs.Outcomes.{replied_refusal}
use Rattle.shard_run.proofs.engine.route.Goals as goal

pub returns-in-Some-clause-outcome : goal.returns-in-Some-clause-outcome
returns-in-Some-clause-outcome g c text accepted =
    let checked = c.args.checked.now in
    let (given, is, after) = c.in-Some.ensures.router in
    let routing = routing_for checked.layout given c.args.shards in
    carries (monitor_of checked) checked.main.span given accepted is
    (ended_so (SaysRoutes c.in-Some.router) (AreRoutes routing)
    (λ shown said so. so routing after) c.reply_to_lines.result _ _ c.reply_to_lines.ensures.ended)

pub returns-in-None-clause-outcome : goal.returns-in-None-clause-outcome
returns-in-None-clause-outcome g c text accepted =
    let checked = c.args.checked.now in
    replied_refusal (Route c.args.shards) text (whole_text checked.main.span)
    (whole (monitor_of checked) checked.main.span accepted
    (rw c.in-None.is at c.router_for.ensures.router)) c.write_reply.result c.whole.result _ _
    (rw c.main.ensures.main at c.whole.ensures) c.write_reply.ensures.replied
