use Rattle.std.proofs.Common.{Err, ap, refl, ◌∙◌}
use Rattle.language_base.specs.declared.rule.Rule.TheVariants.{Size}
use Rattle.query_model.specs.Monitors.{monitor_of}
use Rattle.report_writer.specs.Texts.{refusal_text}
use Rattle.shard_run.specs.Pieces.{large}
use Rattle.shard_run.specs.declared.command.Piece.TheVariants.{Shard}
use Rattle.shard_run.proofs.Replying.{reply_refused, reply_whole}
use Rattle.shard_run.proofs.pieces.shard_reply.Goals as goal

pub returns-in-Ok-None : goal.returns-in-Ok-None
returns-in-Ok-None c =
    reply_whole Shard (monitor_of c.args.checked.now) c.args.checked.now.main.span c.whole.result
    (rw c.in-Ok-None.field-0-is at c.in-Ok-None.ensures.query)
    (rw c.main.ensures.main at c.whole.ensures)

pub returns-in-Err-TooLarge : goal.returns-in-Err-TooLarge
returns-in-Err-TooLarge c =
    let monitor = monitor_of c.args.checked.now in
    let place = c.args.checked.now.main.span in
    reply_refused Shard monitor place (refusal_text (record { rule = Size; span = place }))
    c.refused.result
    (λ text accepted. large monitor place accepted refl
    (c.part_of.ensures.too_large (c.in-Err-TooLarge.is ∙ ap Err c.in-Err-TooLarge.field-0-is)))
    (rw c.main.ensures.main at c.refused.ensures)
