use Rattle.query_syntax.specs.Plain.{plain_program}
use Rattle.query_syntax.proofs.WithinLimits.{stream_within}
use Rattle.cases_queries.proofs.why.findings.judged.Goals as goal

pub judge-requires : goal.judge-requires
judge-requires c =
    stream_within _ (plain_program c.in_ok-program.program) c.in_ok-program.ensures.read.has.fit
