use Rattle.std.proofs.Common.{◌≤◌, ◌+◌}
use Rattle.stream_run.specs.Sessions.{IsReady}
use Rattle.cases_queries.proofs.tables.transcripts.transcript_of.Given as goal

-- the engine can continue, and has taken no more items than are counted
abbrev pub invariant-items : goal.invariant-items
invariant-items g l =
    let f = g.F.Follower in
    record {
      ready : IsReady f.query f.columns f.lost f.sound l.session;
      count : f.position l.session.follower + l.left ≤ 1000;
    }
