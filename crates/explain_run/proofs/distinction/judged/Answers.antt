use Rattle.query_model.specs.Monitors.{monitor_of}
use Rattle.query_syntax.specs.Plain.{plain_program}
use Rattle.query_syntax.proofs.WithinLimits.{stream_within}
use Rattle.query_compiler.specs.Compiled as compiled
use Rattle.type_checker.specs.Judged.{accepted}
use Rattle.explain_run.proofs.distinction.judged.Goals as goal

pub check-requires : goal.check-requires
check-requires c = stream_within _ (plain_program c.args.program.now) c.requires.has.fit

pub returns-in-Ok : goal.returns-in-Ok
returns-in-Ok c =
    compiled.judged (plain_program c.args.program.now)
    (accepted (monitor_of c.in-Ok.checked)) c.requires c.in-Ok.ensures.accepted
