use Rattle.split_eval.proofs.Found.{entry_at-put, entry_at-put_other}
use Rattle.split_eval.proofs.laws.what_is_put_is_found.Goals as goal

pub returns-clause-put : goal.returns-clause-put
returns-clause-put g c = entry_at-put

pub returns-clause-others : goal.returns-clause-others
returns-clause-others g c = entry_at-put_other
