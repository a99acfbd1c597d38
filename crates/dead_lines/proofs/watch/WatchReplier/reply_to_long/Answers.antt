use Rattle.std.proofs.Common.{◌∙◌}
use Rattle.io_edge.specs.Lines.{long}
use Rattle.dead_lines.proofs.Watched.{replies_none}
use Rattle.dead_lines.proofs.watch.WatchReplier.reply_to_long.Goals as goal

pub returns-clause-replies : goal.returns-clause-replies
returns-clause-replies c =
    replies_none long c.as_slice.result.now c.args.self.now c.take_long.new.self
    c.take_long.ensures.takes (c.as_slice.ensures.value ∙ c.clear.ensures.items)
