use Rattle.std.proofs.Common.{◌<◌, length, arith}
use Rattle.io_edge.specs.Lines.{long}
use Rattle.stream_run.specs.Sessions.{IsReady}
use Rattle.beside_lines.specs.Filling.{Fills}
use Rattle.beside_lines.proofs.Filled.{all_with}
use Rattle.beside_lines.proofs.InTurn.{turn_next, turns_all}
use Rattle.beside_lines.proofs.line_columns.push_long_columns.Goals as goal

pub sessions-preserved : goal.sessions-preserved
sessions-preserved g c =
    let f = g.F.Follower in
    let nows = c.sessions.sessions in
    let k = c.sessions.session-index in
    let below = c.sessions-test.true in
    let inside : k < length nows = omega (arith, below) in (
      turn_next (Fills f.follows f.position long) k c.args.sessions.now nows _ _ _
          c.session-item.result c.push_long_line.new.session c.sessions.invariant.0 inside
          c.in_ok-push_long_line.ensures.filled,
      all_with (IsReady f.query f.columns f.lost f.sound) nows k c.push_long_line.new.session
          c.sessions.invariant.1 c.in_ok-push_long_line.ensures.ready,
    )

pub returns-clause-filled : goal.returns-clause-filled
returns-clause-filled g c =
    let f = g.F.Follower in
    turns_all (Fills f.follows f.position long) c.sessions.session-index c.args.sessions.now
    c.sessions.sessions _ _ c.sessions.invariant.0
    (let over = c.sessions-test.false in omega (arith, over))
