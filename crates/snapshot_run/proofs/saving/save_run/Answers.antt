use Rattle.std.proofs.Common.{refl}
use Rattle.query_model.specs.Monitors.{monitor_of}
use Rattle.stream_run.specs.Outside.{outside}
use Rattle.snapshot_run.specs.Concluded.{ended, told}
use Rattle.snapshot_run.specs.Saving.{saves}
use Rattle.snapshot_run.proofs.saving.save_run.Goals as goal

pub returns-in-Ok-save-clause-saves : goal.returns-in-Ok-save-clause-saves
returns-in-Ok-save-clause-saves g c =
    saves (monitor_of c.args.checked.now) c.requires.compiled c.requires.kept
    (ended c.in-Ok-save.status refl c.in-Ok-save.ensures.saved)

pub returns-in-Err-clause-saves : goal.returns-in-Err-clause-saves
returns-in-Err-clause-saves g c =
    let at = outside g.S.Source.left g.S.Source.ends g.W.Sink.taken in
    saves (monitor_of c.args.checked.now) c.requires.compiled c.requires.kept
    (told c.in-Err.flaw (at c.save.new.items c.save.new.out) c.in-Err.ensures.saved
    (refl {a = at c.save.new.items c.write_flaw.new.out}) c.write_flaw.ensures.ends)
