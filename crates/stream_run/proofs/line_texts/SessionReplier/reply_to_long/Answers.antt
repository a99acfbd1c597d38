use Rattle.io_edge.specs.Lines.{long}
use Rattle.stream_run.proofs.Said.{said_so}
use Rattle.stream_run.proofs.Sessions.{replies_long, reported}
use Rattle.stream_run.proofs.line_texts.SessionReplier.reply_to_long.Goals as goal

pub returns-clause-replies : goal.returns-clause-replies
returns-clause-replies g c =
    let f = g.F.Follower in
    let old = c.args.self.now in
    let new = c.long_line-reply.new.self in
    said_so f.follows long c.reply_text.result old new
    (reported f.follows c.reply_text.result _ long old new c.reply_text.ensures
    (replies_long f.follows f.query c.long_line-reply.result _ old new
    c.long_line-reply.ensures.follows c.long_line-reply.ensures.reply))
