use Rattle.query_syntax.specs.Plain.{plain_program}
use Rattle.query_syntax.proofs.WithinLimits.{stream_within}
use Rattle.cases_drawn.proofs.judgment.checked.Goals as goal

pub check-requires : goal.check-requires
check-requires c = stream_within _ (plain_program c.in_ok-program.program) c.in_ok-program.ensures.read.has.fit
