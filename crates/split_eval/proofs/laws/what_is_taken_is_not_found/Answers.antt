use Rattle.split_eval.proofs.Found.{entry_at-without, entry_at-without_other}
use Rattle.split_eval.proofs.laws.what_is_taken_is_not_found.Goals as goal

pub returns-clause-taken : goal.returns-clause-taken
returns-clause-taken g c = entry_at-without

pub returns-clause-others : goal.returns-clause-others
returns-clause-others g c = entry_at-without_other
