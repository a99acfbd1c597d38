use Rattle.query_syntax.specs.Plain.{plain_program}
use Rattle.query_syntax.proofs.WithinLimits.{stream_within}
use Rattle.explain_run.proofs.query.explanation_in.Goals as goal

pub judge-requires : goal.judge-requires
judge-requires c = stream_within _ (plain_program c.args.program.now) c.requires.has.fit
