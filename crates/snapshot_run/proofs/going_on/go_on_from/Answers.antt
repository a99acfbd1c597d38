use Rattle.std.proofs.Common.{refl}
use Rattle.query_model.specs.Monitors.{monitor_of}
use Rattle.runner_snapshot.specs.Saved.{snapshot_of}
use Rattle.stream_run.specs.Outside.{outside}
use Rattle.snapshot_run.specs.Concluded.{ended}
use Rattle.snapshot_run.specs.GoingOn.{runs}
use Rattle.snapshot_run.proofs.GoingOn.{goes_on_told}
use Rattle.snapshot_run.proofs.going_on.go_on_from.Goals as goal

pub returns-in-Ok-clause-goes_on : goal.returns-in-Ok-clause-goes_on
returns-in-Ok-clause-goes_on g c bytes opened =
    runs (snapshot_of c.args.opened.now.saved.value) (monitor_of c.args.opened.now.checked.value)
    opened c.requires.kept (ended c.in-Ok.status refl c.in-Ok.ensures.went_on)

pub returns-in-Err-clause-goes_on : goal.returns-in-Err-clause-goes_on
returns-in-Err-clause-goes_on g c bytes opened =
    let at = outside g.S.Source.left g.S.Source.ends g.W.Sink.taken in
    goes_on_told bytes (snapshot_of c.args.opened.now.saved.value)
    (monitor_of c.args.opened.now.checked.value) opened c.requires.kept c.write_flaw.result
    (at c.args.items.now c.args.out.now) (at c.run_from.new.items c.run_from.new.out)
    (at c.run_from.new.items c.write_flaw.new.out)
    (refl {a = at c.run_from.new.items c.write_flaw.new.out}) c.args.onward c.in-Err.flaw
    c.in-Err.ensures.went_on c.write_flaw.ensures.ends
