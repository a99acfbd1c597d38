use Rattle.std.proofs.Common.{[], ◌∷◌, sym, subst}
use Rattle.std.specs.Option.{option_copied}
use Rattle.io_edge.specs.Lines.{text}
use Rattle.item_schema.specs.Layout.{Layout}
use Rattle.stream_run.proofs.Sessions.{takes}
use Rattle.stream_run.specs.Sessions.{Takes}
use Rattle.view_lines.specs.Replies.{IsReadable, row_replied}
use Rattle.view_lines.specs.Rows.{names_at}
use Rattle.view_lines.proofs.Replying.{readable, row_is}
use Rattle.view_lines.proofs.Viewing.{both_written, replies_view}
use Rattle.view_lines.proofs.view.ViewReplier.reply.Goals as goal

pub push_reply-requires : goal.push_reply-requires
push_reply-requires g c =
    subst (λ (l : Layout). IsReadable l.columns c.args.line.now c.in_ok-reply.reply)
    (sym c.requires.ready.schema)
    (readable c.args.self.now.session c.args.line.now c.in_ok-reply.reply
    c.in_ok-reply.ensures.reply)

pub returns-clause-replies : goal.returns-clause-replies
returns-clause-replies g c =
    let f = g.F.Follower in
    let line = text c.args.line.now in
    let old = c.args.self.now in
    let columns = old.schema.now.columns in
    let answer = option_copied c.answer-answer.result in
    let reply = c.in_ok-reply.reply in
    let taken : Takes f.follows line old.session c.line.new.self =
    takes f.follows line old.session c.line.new.self c.in_ok-reply.ensures.same
    c.in_ok-reply.ensures.began c.in_ok-reply.ensures.follows in
    replies_view f.follows line reply answer old
    (record { session = c.line.new.self; schema = old.schema; sheet = c.push_reply.new.sheet })
    c.requires.ready.schema c.as_slice.result.now
    (both_written columns (names_at old.session.began [])
    (row_replied columns line reply answer ∷ []) old.sheet c.begin_text.new.sheet
    c.push_reply.new.sheet [] _ _ _ c.in_ok-begin_text.ensures c.in_ok-push_reply.ensures
    c.as_slice.ensures.value)
    taken
    (row_is f.follows f.query line reply answer old.session c.line.new.self
    c.in_ok-reply.ensures.reply taken
    (λ item found. (
      c.in_ok-reply.ensures.checked,
      c.in_ok-reply.ensures.ready.query_is,
      c.answer-answer.ensures.answer,
    )))
