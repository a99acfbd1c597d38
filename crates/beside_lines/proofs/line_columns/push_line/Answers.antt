use Rattle.std.specs.Option.{option_copied}
use Rattle.io_edge.specs.Lines.{text}
use Rattle.stream_run.specs.Sessions.{text_of}
use Rattle.stream_run.proofs.Sessions.{replies}
use Rattle.beside_lines.proofs.Popped.{ok_so}
use Rattle.beside_lines.proofs.line_columns.push_line.Goals as goal

pub returns-clause-filled : goal.returns-clause-filled
returns-clause-filled g c =
    let f = g.F.Follower in
    let line = text c.args.line.now in
    let reply = c.in_ok-reply.reply in
    let answer = option_copied c.answer.result in
    ok_so c.push_column.result
    (λ filled. record {
      reply = text_of reply answer;
      replies = replies f.follows f.query line reply answer c.args.session.now c.line.new.self
          c.in_ok-reply.ensures.same c.in_ok-reply.ensures.began c.in_ok-reply.ensures.reply
          c.in_ok-reply.ensures.follows
          (λ item found. (
            c.in_ok-reply.ensures.checked,
            c.in_ok-reply.ensures.ready.query_is,
            c.answer.ensures.answer,
          ));
      filled = filled;
      one = c.in_ok-reply.ensures.position;
    })
    c.push_column.ensures
