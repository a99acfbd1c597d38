use Rattle.split_eval.proofs.Distinct.{AreDistinct-live, AreDistinct-put}
use Rattle.split_eval.proofs.laws.entries_stay_distinct.Goals as goal

pub returns-clause-put : goal.returns-clause-put
returns-clause-put g c = AreDistinct-put

pub returns-clause-live : goal.returns-clause-live
returns-clause-live g c = AreDistinct-live
