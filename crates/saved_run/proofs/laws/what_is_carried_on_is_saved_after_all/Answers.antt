use Rattle.saved_run.proofs.Standing.{carried}
use Rattle.saved_run.proofs.laws.what_is_carried_on_is_saved_after_all.Goals as goal

pub returns : goal.returns
returns g c monitor snapshot =
    carried (g.R.Keepable.means monitor.layout.columns monitor.query) monitor snapshot
