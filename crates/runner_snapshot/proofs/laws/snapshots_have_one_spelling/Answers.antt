use Rattle.runner_snapshot.proofs.ReadSnapshots.{one_spelling}
use Rattle.runner_snapshot.proofs.laws.snapshots_have_one_spelling.Goals as goal

pub returns : goal.returns
returns c = one_spelling
