use Rattle.io_edge.specs.Lines.{text}
use Rattle.shard_run.proofs.Lines.{replies}
use Rattle.shard_run.proofs.router.RouterReplier.reply.Goals as goal

pub returns-clause-replies : goal.returns-clause-replies
returns-clause-replies c =
    replies (text c.args.line.now) c.in_ok-route.route c.text_in.result c.args.self.now
    c.line.new.self
    (record { route_is = c.in_ok-route.ensures.route; new_is = c.in_ok-route.ensures.after })
    c.text_in.ensures
