use Rattle.std.proofs.Common.{Ok, ap, ◌∙◌}
use Rattle.shard_run.proofs.Outcomes.{refusal_replied, text_replied}
use Rattle.shard_run.proofs.reply.write_reply.Goals as goal

pub returns-in-Ok-Text-clause-replied : goal.returns-in-Ok-Text-clause-replied
returns-in-Ok-Text-clause-replied g c =
    rw (c.in-Ok-Text.is ∙ ap Ok c.in-Ok-Text.field-0-is)
    (text_replied c.report.result c.in-Ok-Text.text _ _ c.report.ensures.reported)

pub returns-in-Ok-Refusal-clause-replied : goal.returns-in-Ok-Refusal-clause-replied
returns-in-Ok-Refusal-clause-replied g c =
    rw (c.in-Ok-Refusal.is ∙ ap Ok c.in-Ok-Refusal.field-0-is)
    (refusal_replied c.refuse.result c.in-Ok-Refusal.lines _ _ c.refuse.ensures.refuses)
