use Rattle.report_writer.proofs.Tables.{pushed_entry}
use Rattle.report_writer.proofs.table_text.push_entry.Goals as goal

pub returns-clause-ok : goal.returns-clause-ok
returns-clause-ok c =
    pushed_entry c.push_scalar.result _ _ _ _ _ _ _ _ _ c.key.ensures c.value.ensures
    c.in_ok-push_comma.ensures.ok c.in_ok-push_key.ensures.ok
    c.in_ok-extend_from_slice.ensures.items c.push_scalar.ensures.ok
