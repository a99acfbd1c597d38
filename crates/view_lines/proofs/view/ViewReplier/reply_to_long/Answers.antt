use Rattle.std.proofs.Common.{[], ◌∷◌, None}
use Rattle.io_edge.specs.Lines.{long}
use Rattle.stream_run.proofs.Sessions.{replies_long}
use Rattle.stream_run.specs.Sessions.{Takes}
use Rattle.view_lines.specs.Replies.{row_replied}
use Rattle.view_lines.specs.Rows.{names_at}
use Rattle.view_lines.proofs.Replying.{long_row_is}
use Rattle.view_lines.proofs.Viewing.{both_written, replies_view}
use Rattle.view_lines.proofs.view.ViewReplier.reply_to_long.Goals as goal

pub returns-clause-replies : goal.returns-clause-replies
returns-clause-replies g c =
    let f = g.F.Follower in
    let old = c.args.self.now in
    let columns = old.schema.now.columns in
    let reply = c.long_line-reply.result in
    let taken : Takes f.follows long old.session c.long_line-reply.new.self =
    (replies_long f.follows f.query reply None old.session c.long_line-reply.new.self
    c.long_line-reply.ensures.follows c.long_line-reply.ensures.reply).takes in
    replies_view f.follows long reply None old
    (record {
      session = c.long_line-reply.new.self;
      schema = old.schema;
      sheet = c.push_long_reply.new.sheet;
    })
    c.requires.ready.schema c.as_slice.result.now
    (both_written columns (names_at old.session.began [])
    (row_replied columns long reply None ∷ []) old.sheet c.begin_text.new.sheet
    c.push_long_reply.new.sheet [] _ _ _ c.in_ok-begin_text.ensures
    (c.in_ok-push_long_reply.ensures None) c.as_slice.ensures.value)
    taken
    (long_row_is f.follows f.query reply old.session c.long_line-reply.new.self
    c.long_line-reply.ensures.reply taken)
