use Rattle.std.proofs.Common.{refl}
use Rattle.query_model.specs.Monitors.{monitor_of}
use Rattle.hints_run.proofs.Carried.{past_dead, past_reported}
use Rattle.hints_run.proofs.text_run.carry_out.Goals as goal

pub returns-in-Hints-clause-carries : goal.returns-in-Hints-clause-carries
returns-in-Hints-clause-carries g c = rw c.in-Hints.is
    (refl, c.hints_text.result, c.hints_text.ensures, c.report.ensures.reported)

pub returns-in-Dead-clause-carries : goal.returns-in-Dead-clause-carries
returns-in-Dead-clause-carries g c = rw c.in-Dead.is c.write_dead_line.ensures.reports

pub returns-in-Hints-clause-past : goal.returns-in-Hints-clause-past
returns-in-Hints-clause-past g c = past_reported _ _ _ _ c.report.ensures.reported

pub returns-in-Dead-clause-past : goal.returns-in-Dead-clause-past
returns-in-Dead-clause-past g c = past_dead (monitor_of c.args.checked.now) _ _ _ c.write_dead_line.ensures.reports
