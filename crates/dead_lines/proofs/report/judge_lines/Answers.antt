use Rattle.std.proofs.Common.{true, [], subst}
use Rattle.io_edge.specs.Lines.{lines}
use Rattle.stream_run.specs.Endings.{EndedBy}
use Rattle.stream_run.specs.Outside.{outside}
use Rattle.stream_run.specs.declared.status.Status.{Status}
use Rattle.stream_run.proofs.EndedPart.{left_so}
use Rattle.dead_lines.specs.Courses.{dead_line_of}
use Rattle.dead_lines.specs.DeadLines.{IsDeadLine}
use Rattle.dead_lines.specs.Watching.{WatchesOn}
use Rattle.dead_lines.proofs.Judging.{dead_line_is}
use Rattle.dead_lines.proofs.Reporting.{IsNothing, done_judged, other_judged}
use Rattle.dead_lines.proofs.report.judge_lines.Goals as goal

pub returns-in-Done-clause-judges : goal.returns-in-Done-clause-judges
returns-in-Done-clause-judges g c = λ monitor clear of.
    let at = outside g.S.Source.left g.S.Source.ends g.W.Sink.taken in
    let watch = c.reply_to_lines.new.replier in
    let known = left_so (g.S.Source.left c.args.items.now)
    (λ bytes. WatchesOn c.begin-watch.result (lines bytes true) watch)
    (λ bytes. IsDeadLine monitor (lines bytes true) (dead_line_of watch.course))
    (λ bytes watches. dead_line_is monitor c.args.nfa.now clear of.layout_is of.sets
    (lines bytes true) watch.course
    (watches c.args.nfa.now [] c.begin-watch.ensures.watches).course)
    (c.reply_to_lines.ensures.after c.in-Done.is) in
    done_judged monitor (at c.args.items.now c.args.out.now)
    (at c.reply_to_lines.new.items c.reply_to_lines.new.out) _ (dead_line_of watch.course)
    (subst (λ (s : Status). EndedBy IsNothing s (at c.args.items.now c.args.out.now)
    (at c.reply_to_lines.new.items c.reply_to_lines.new.out)) c.in-Done.is
    c.reply_to_lines.ensures.ended)
    known c.report.result c.dead_text.result (rw c.dead_line.ensures at c.dead_text.ensures)
    c.report.ensures.reported

pub returns : goal.returns
returns g c = record {
  judges = λ monitor clear of.
      other_judged monitor _ _ _ c.in_default.not-Done c.reply_to_lines.ensures.ended;
  flushed = c.reply_to_lines.ensures.flushed;
  item_faults = c.reply_to_lines.ensures.item_faults;
  sink_faults = c.reply_to_lines.ensures.sink_faults;
}
