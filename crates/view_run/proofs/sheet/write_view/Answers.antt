use Rattle.query_model.specs.Monitors.{monitor_of}
use Rattle.stream_run.specs.Outside.{outside}
use Rattle.stream_run.proofs.EndedPart.{ended_so}
use Rattle.view_lines.specs.Views.{AreViewed, origin_of_view}
use Rattle.view_run.specs.Outputs.{AreViews, style_with}
use Rattle.view_run.proofs.Texts.{views_so}
use Rattle.view_run.proofs.sheet.write_view.Goals as goal

pub returns-clause-ended : goal.returns-clause-ended
returns-clause-ended g c =
    let f = g.F.Follower in
    let on = c.args.checked.now in
    let at = outside g.S.Source.left g.S.Source.ends g.W.Sink.taken in
    let origin = origin_of_view c.begin-view.result in
    ended_so (AreViewed f.follows origin)
    (AreViews (style_with c.args.form c.args.digits) (monitor_of on))
    (views_so f.follows on c.args.follower c.args.form c.args.digits c.requires.word origin
    c.begin-view.ensures.origin)
    c.reply_to_lines.result (at c.args.items.now c.args.out.now)
    (at c.reply_to_lines.new.items c.reply_to_lines.new.out) c.reply_to_lines.ensures.ended
