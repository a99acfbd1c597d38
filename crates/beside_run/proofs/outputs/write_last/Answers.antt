use Rattle.std.proofs.Common.{◌≡◌, true, subst}
use Rattle.std.specs.Option.{option_copied}
use Rattle.io_edge.specs.Lines.{lines}
use Rattle.query_model.specs.Monitors.{monitor_of}
use Rattle.stream_run.specs.Endings.{EndedBy}
use Rattle.stream_run.specs.Meanings.{IsMeaning, Meaning}
use Rattle.stream_run.specs.Output.{value_after}
use Rattle.stream_run.specs.Outside.{outside}
use Rattle.stream_run.specs.Sessions.{IsAfter, Origin, origin_of}
use Rattle.stream_run.specs.declared.status.Status.{Status}
use Rattle.stream_run.proofs.EndedPart.{left_so}
use Rattle.beside_run.proofs.LastEnds.{IsNothing, done_last, other_last}
use Rattle.beside_run.proofs.Texts.{value_of_all}
use Rattle.beside_run.proofs.outputs.write_last.Goals as goal

pub returns-in-Done-clause-ended : goal.returns-in-Done-clause-ended
returns-in-Done-clause-ended g c =
    let f = g.F.Follower in
    let on = c.args.checked.now in
    let at = outside g.S.Source.left g.S.Source.ends g.W.Sink.taken in
    let session = c.reply_to_lines.new.replier.session in
    let answer = option_copied c.answer.result in
    let known = left_so (g.S.Source.left c.args.items.now)
    (λ bytes. IsAfter f.follows (origin_of c.begin-quiet.result.session) (lines bytes true) session)
    (λ bytes. (meaning : Meaning) → IsMeaning (monitor_of on) meaning
    → answer ≡ value_after meaning (lines bytes true))
    (λ bytes holds_after. value_of_all f.follows f.query on c.args.follower (lines bytes true)
    session answer c.requires.keeps.clear c.requires.word
    (subst (λ (o : Origin _). IsAfter f.follows o (lines bytes true) session)
    c.begin-quiet.ensures.origin holds_after)
    (c.reply_to_lines.ensures.ready c.in-Done.is).query_is c.answer.ensures)
    (c.reply_to_lines.ensures.after c.in-Done.is) in
    done_last (monitor_of on) (at c.args.items.now c.args.out.now)
    (at c.reply_to_lines.new.items c.reply_to_lines.new.out) _ answer
    (subst (λ (s : Status). EndedBy IsNothing s (at c.args.items.now c.args.out.now)
    (at c.reply_to_lines.new.items c.reply_to_lines.new.out)) c.in-Done.is
    c.reply_to_lines.ensures.ended)
    known c.report.result c.answer_text.result c.answer_text.ensures c.report.ensures.reported

pub returns : goal.returns
returns g c =
    let on = c.args.checked.now in
    let at = outside g.S.Source.left g.S.Source.ends g.W.Sink.taken in
    record {
      ended = other_last (monitor_of on) (at c.args.items.now c.args.out.now)
          c.reply_to_lines.result (at c.reply_to_lines.new.items c.reply_to_lines.new.out)
          c.in_default.not-Done c.reply_to_lines.ensures.ended;
      flushed = c.reply_to_lines.ensures.flushed;
      item_faults = c.reply_to_lines.ensures.item_faults;
      sink_faults = c.reply_to_lines.ensures.sink_faults;
    }
