use Rattle.std.proofs.Common.{◌∙◌}
use Rattle.io_edge.specs.Lines.{text}
use Rattle.dead_lines.proofs.Watched.{replies_none}
use Rattle.dead_lines.proofs.watch.WatchReplier.reply.Goals as goal

pub returns-clause-replies : goal.returns-clause-replies
returns-clause-replies c =
    replies_none (text c.args.line.now) c.as_slice.result.now c.args.self.now c.take.new.self
    c.in_ok-take.ensures.takes (c.as_slice.ensures.value ∙ c.clear.ensures.items)
