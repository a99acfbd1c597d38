use Rattle.sqre_run.proofs.OneOutput.{one_output}
use Rattle.sqre_run.proofs.SomeMeaning.{some_meaning}
use Rattle.sqre_run.proofs.laws.queries_have_meanings.Goals as goal

pub returns-clause-some : goal.returns-clause-some
returns-clause-some c = some_meaning

pub returns-clause-same : goal.returns-clause-same
returns-clause-same c monitor one other bytes keeps is_one is_other is =
    one_output monitor keeps one other is_one is_other bytes is
