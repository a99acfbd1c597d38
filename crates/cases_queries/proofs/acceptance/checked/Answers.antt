use Rattle.query_syntax.specs.Plain.{plain_program}
use Rattle.query_syntax.proofs.WithinLimits.{stream_within}
use Rattle.cases_queries.proofs.acceptance.checked.Goals as goal

pub check-requires : goal.check-requires
check-requires c = stream_within _ (plain_program c.in-Ok.program) c.in-Ok.ensures.read.has.fit
