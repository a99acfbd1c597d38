use Rattle.std.proofs.Common.{[], refl}
use Rattle.runner_snapshot.proofs.saving.length_of.Goals as goal

pub returns : goal.returns
returns c = c.in_ok-put_snapshot.ensures [] refl
