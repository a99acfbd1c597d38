use Rattle.query_model.specs.Monitors.{monitor_of}
use Rattle.shard_run.specs.declared.command.Piece.TheVariants.{Mask}
use Rattle.shard_run.proofs.Replying.{reply_whole}
use Rattle.shard_run.proofs.pieces.mask_reply.Goals as goal

pub returns-in-None : goal.returns-in-None
returns-in-None c =
    reply_whole Mask (monitor_of c.args.checked.now) c.args.checked.now.main.span c.whole.result
    (rw c.in-None.is at c.in_ok-mask.ensures.query) (rw c.main.ensures.main at c.whole.ensures)
