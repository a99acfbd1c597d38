use Rattle.io_edge.specs.Lines.{text}
use Rattle.stream_run.proofs.Said.{said_so}
use Rattle.stream_run.proofs.Sessions.{replies, reported}
use Rattle.stream_run.proofs.line_texts.SessionReplier.reply.Goals as goal

pub returns-clause-replies : goal.returns-clause-replies
returns-clause-replies g c =
    let f = g.F.Follower in
    let line = text c.args.line.now in
    let old = c.args.self.now in
    let new = c.line.new.self in
    said_so f.follows line c.reply_text.result old new
    (reported f.follows c.reply_text.result _ line old new c.reply_text.ensures
    (replies f.follows f.query line c.in_ok-reply.reply _ old new
    c.in_ok-reply.ensures.same c.in_ok-reply.ensures.began c.in_ok-reply.ensures.reply
    c.in_ok-reply.ensures.follows
    (λ item found. (
      c.in_ok-reply.ensures.checked,
      c.in_ok-reply.ensures.ready.query_is,
      c.answer.ensures.answer,
    ))))
