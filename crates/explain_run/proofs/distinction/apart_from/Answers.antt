use Rattle.query_model.specs.Monitors.{monitor_of}
use Rattle.explain_run.proofs.Parting.{from_taken}
use Rattle.explain_run.proofs.distinction.apart_from.Goals as goal

pub returns-in-Some : goal.returns-in-Some
returns-in-Some c =
    from_taken (monitor_of c.args.left.now) (monitor_of c.in-Some.query) c.args.right.now
    c.distinguish.result (rw c.in-Some.is at c.in_ok-query.ensures) c.distinguish.ensures.found
    c.distinguish.ensures.shortest
