use Rattle.std.proofs.Common.{◌≡◌, ap, arith}
use Rattle.std.specs.Option.{option_copied}
use Rattle.stream_run.specs.Sessions.{text_of}
use Rattle.stream_run.proofs.Sessions.{replies_long}
use Rattle.beside_lines.proofs.Popped.{ok_so}
use Rattle.beside_lines.proofs.line_columns.push_long_line.Goals as goal

pub returns-clause-filled : goal.returns-clause-filled
returns-clause-filled g c =
    let f = g.F.Follower in
    let reply = c.long_line-reply.result in
    let answer = option_copied c.answer.result in
    let old = c.args.session.now in
    let new = c.long_line-reply.new.self in
    let same : f.position new.follower ≡ f.position old.follower =
    ap (λ s. f.position s.follower) c.long_line-reply.ensures.follows in
    ok_so c.push_column.result
    (λ filled. record {
      reply = text_of reply answer;
      replies = replies_long f.follows f.query reply answer old new
          c.long_line-reply.ensures.follows c.long_line-reply.ensures.reply;
      filled = filled;
      one = omega (arith, same);
    })
    c.push_column.ensures
