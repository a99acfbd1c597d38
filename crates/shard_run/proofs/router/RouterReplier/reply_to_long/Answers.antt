use Rattle.io_edge.specs.Lines.{long}
use Rattle.shard_run.proofs.Lines.{replies}
use Rattle.shard_run.proofs.router.RouterReplier.reply_to_long.Goals as goal

pub returns-clause-replies : goal.returns-clause-replies
returns-clause-replies c =
    replies long c.long_line-route.result c.text_in.result c.args.self.now c.long_line-route.new.self
    (record { route_is = c.long_line-route.ensures.route; new_is = c.long_line-route.ensures.after })
    c.text_in.ensures
