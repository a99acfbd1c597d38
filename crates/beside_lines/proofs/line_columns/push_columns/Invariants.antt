use Rattle.std.specs.List.{AllByRecursion}
use Rattle.io_edge.specs.Lines.{text}
use Rattle.stream_run.specs.Sessions.{IsReady}
use Rattle.beside_lines.specs.Filling.{Fills}
use Rattle.beside_lines.proofs.InTurn.{InTurnTo}
use Rattle.beside_lines.proofs.line_columns.push_columns.Given as goal

-- the runs below the index have filled their columns, and each can take a line
abbrev pub invariant-sessions : goal.invariant-sessions
invariant-sessions g l =
    let f = g.F.Follower in
    InTurnTo (Fills f.follows f.position (text l.fn.line)) l.session-index l.fn.sessions
    l.sessions l.fn.buffer.items l.buffer.items
    × AllByRecursion (IsReady f.query f.columns f.lost f.sound) l.sessions
