use Rattle.std.proofs.Common.{◌∙◌}
use Rattle.io_edge.specs.Lines.{text}
use Rattle.stream_run.proofs.Sessions.{takes}
use Rattle.beside_lines.proofs.Quiets.{replies_quiet}
use Rattle.beside_lines.proofs.quiet.QuietReplier.reply.Goals as goal

pub returns-clause-replies : goal.returns-clause-replies
returns-clause-replies g c =
    let f = g.F.Follower in
    let line = text c.args.line.now in
    let old = c.args.self.now in
    let new = c.line.new.self in
    replies_quiet f.follows line c.as_slice.result.now old (record { session = new })
    (takes f.follows line old.session new c.in_ok-_reply.ensures.same c.in_ok-_reply.ensures.began
    c.in_ok-_reply.ensures.follows)
    (c.as_slice.ensures.value ∙ c.clear.ensures.items)
