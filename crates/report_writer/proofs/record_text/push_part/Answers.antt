use Rattle.report_writer.proofs.Records.{pushed_part}
use Rattle.report_writer.proofs.record_text.push_part.Goals as goal

pub returns-clause-ok : goal.returns-clause-ok
returns-clause-ok c =
    pushed_part c.push_scalar.result _ _ _ _ _ _ c.part.ensures c.in_ok-push_comma.ensures.ok
    c.push_scalar.ensures.ok
