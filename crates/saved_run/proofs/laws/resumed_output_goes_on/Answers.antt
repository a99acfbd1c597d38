use Rattle.saved_run.proofs.Standing.{goes_on}
use Rattle.saved_run.proofs.laws.resumed_output_goes_on.Goals as goal

pub returns : goal.returns
returns g c monitor meaning snapshot =
    goes_on (g.R.Keepable.means monitor.layout.columns monitor.query) monitor snapshot meaning
