use Rattle.rate_equal.proofs.Filling.{unlike_there}
use Rattle.rate_equal.proofs.rows.insert_unlike.Goals as goal

pub returns-clause-unlike : goal.returns-clause-unlike
returns-clause-unlike c = unlike_there _ _ _ _ _ _ c.without.ensures c.insert_rows.ensures.held
    c.insert_lacking.ensures.kept c.insert_lacking.ensures.lacking
