use Rattle.std.proofs.Common.{inl, inr}
use Rattle.query_model.specs.Monitors.{monitor_of}
use Rattle.sqre_run.proofs.Commands.{reported_bound, reported_check, reported_drill}
use Rattle.sqre_run.proofs.Commands.{reported_rewrite, reported_why}
use Rattle.sqre_run.proofs.RewrittenQueries.{some_text}
use Rattle.sqre_run.proofs.engine.carry_out.Goals as goal

pub returns-in-Check-clause-carried : goal.returns-in-Check-clause-carried
returns-in-Check-clause-carried g c =
    let monitor = monitor_of c.args.checked.now in
    let carried = reported_check monitor _ c.check_text.ensures _ _ _ c.report.ensures.reported in
    elim c.in-Check.is [
      | inl is ↦ rw is carried
      | inr is ↦ rw is (reported_why monitor _ _ _ carried)
    ]

pub returns-in-Bound-clause-carried : goal.returns-in-Bound-clause-carried
returns-in-Bound-clause-carried g c =
    rw c.in-Bound.is (reported_bound (monitor_of c.args.checked.now) _ c.bound_line.ensures _ _ _
    c.report-in-Bound.ensures.reported)

pub returns-in-Drill-clause-carried : goal.returns-in-Drill-clause-carried
returns-in-Drill-clause-carried g c =
    rw c.in-Drill.is
    (reported_drill c.in-Drill.count c.in-Drill.seed (monitor_of c.args.checked.now) _
    c.drill_query.ensures _ _ _ c.report-in-Drill.ensures.reported)

pub returns-in-Rewrite-clause-carried : goal.returns-in-Rewrite-clause-carried
returns-in-Rewrite-clause-carried g c =
    let monitor = monitor_of c.args.checked.now in
    rw c.in-Rewrite.is
    (reported_rewrite monitor (some_text monitor c.requires.keeps) _ c.rewritten_text.ensures _ _ _
    c.report-in-Rewrite.ensures.reported)
