use Rattle.std.proofs.Common.{arith}
use Rattle.stream_run.proofs.EndedPart.{ended_so}
use Rattle.beside_lines.specs.Besides.{AreBeside}
use Rattle.beside_lines.specs.Filling.{origins_of}
use Rattle.beside_run.specs.Compiling.{monitors_in}
use Rattle.beside_run.specs.Outputs.{AreBesides}
use Rattle.beside_run.proofs.Texts.{besides_so, none_taken}
use Rattle.beside_run.proofs.outputs.write_beside.Goals as goal

pub reply_to_lines-requires-clause-room : goal.reply_to_lines-requires-clause-room
reply_to_lines-requires-clause-room g c =
    let f = g.F.Follower in
    let laws = g.met.F.Follower in
    let none = none_taken f.follows f.position laws.at_end c.args.sessions.items c.requires.new in
    omega (arith, none)

pub returns-clause-ended : goal.returns-clause-ended
returns-clause-ended g c =
    let f = g.F.Follower in
    let sessions = c.args.sessions.items in
    ended_so (AreBeside f.follows (origins_of sessions)) (AreBesides (monitors_in sessions))
    (besides_so f.follows sessions c.requires.new) c.reply_to_lines.result _ _
    c.reply_to_lines.ensures.ended
