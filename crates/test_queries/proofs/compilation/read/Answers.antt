use Rattle.query_syntax.specs.Plain.{plain_program}
use Rattle.query_syntax.proofs.WithinLimits.{stream_within}
use Rattle.test_queries.proofs.compilation.read.Goals as goal

pub returns-in-Ok : goal.returns-in-Ok
returns-in-Ok c = stream_within _ (plain_program c.in-Ok.program) c.in-Ok.ensures.read.has.fit
