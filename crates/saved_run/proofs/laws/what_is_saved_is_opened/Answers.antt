use Rattle.saved_run.proofs.Standing.{opened}
use Rattle.saved_run.proofs.laws.what_is_saved_is_opened.Goals as goal

pub returns : goal.returns
returns g c monitor snapshot =
    opened (g.R.Keepable.means monitor.layout.columns monitor.query) monitor snapshot
