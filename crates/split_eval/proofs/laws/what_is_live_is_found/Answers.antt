use Rattle.split_eval.proofs.Found.{entry_at-live}
use Rattle.split_eval.proofs.laws.what_is_live_is_found.Goals as goal

pub returns : goal.returns
returns g c = entry_at-live
