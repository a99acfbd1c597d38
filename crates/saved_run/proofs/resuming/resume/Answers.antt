use Rattle.query_model.specs.Monitors.{monitor_of}
use Rattle.query_model.specs.Queries.{plain_of}
use Rattle.runner_snapshot.specs.Saved.{snapshot_of}
use Rattle.stream_run.specs.Outside.{outside}
use Rattle.saved_run.proofs.Restoring.{ended_none}
use Rattle.saved_run.proofs.resuming.resume.Goals as goal

pub returns-in-Err-Memory-clause-resumed : goal.returns-in-Err-Memory-clause-resumed
returns-in-Err-Memory-clause-resumed g c =
    let on = c.args.checked.now in
    ended_none (g.R.Keepable.means on.layout.columns (plain_of on.main.shape)) (monitor_of on)
    (snapshot_of c.args.saved.now)
    (outside g.S.Source.left g.S.Source.ends g.W.Sink.taken c.args.items.now c.args.out.now)
