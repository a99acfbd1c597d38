use Rattle.std.proofs.Common.{◌≡◌, ◌<◌, length, get_or, ap, arith}
use Rattle.io_edge.specs.Lines.{text}
use Rattle.stream_run.specs.Sessions.{IsReady}
use Rattle.beside_lines.specs.Filling.{Fills}
use Rattle.beside_lines.proofs.Filled.{all_with, at_most}
use Rattle.beside_lines.proofs.InTurn.{turn_next, turn_same, turns_all, turns_long}
use Rattle.beside_lines.proofs.line_columns.push_columns.Goals as goal

pub push_line-requires-clause-room : goal.push_line-requires-clause-room
push_line-requires-clause-room g c =
    let f = g.F.Follower in
    let leads = Fills f.follows f.position (text c.args.line.now) in
    let olds = c.args.sessions.now in
    let nows = c.sessions.sessions in
    let k = c.sessions.session-index in
    let d = c.session-item.result in
    let turns = c.sessions.invariant.0 in
    let same : f.position (get_or nows k d).follower ≡ f.position (get_or olds k d).follower =
    ap (λ s. f.position s.follower) (turn_same leads k olds nows _ _ d turns) in
    let long : length nows ≡ length olds = turns_long leads k olds nows _ _ turns in
    let below = c.sessions-test.true in
    let inside : k < length olds = omega (arith, below, long) in
    let most_of = at_most f.position olds k d inside in
    let room = c.requires.room in
    omega (arith, same, most_of, room)

pub sessions-preserved : goal.sessions-preserved
sessions-preserved g c =
    let f = g.F.Follower in
    let leads = Fills f.follows f.position (text c.args.line.now) in
    let nows = c.sessions.sessions in
    let k = c.sessions.session-index in
    let below = c.sessions-test.true in
    let inside : k < length nows = omega (arith, below) in (
      turn_next leads k c.args.sessions.now nows _ _ _ c.session-item.result
          c.push_line.new.session c.sessions.invariant.0 inside c.in_ok-push_line.ensures.filled,
      all_with (IsReady f.query f.columns f.lost f.sound) nows k c.push_line.new.session
          c.sessions.invariant.1 c.in_ok-push_line.ensures.ready,
    )

pub returns-clause-filled : goal.returns-clause-filled
returns-clause-filled g c =
    let f = g.F.Follower in
    turns_all (Fills f.follows f.position (text c.args.line.now)) c.sessions.session-index
    c.args.sessions.now c.sessions.sessions _ _ c.sessions.invariant.0
    (let over = c.sessions-test.false in omega (arith, over))
