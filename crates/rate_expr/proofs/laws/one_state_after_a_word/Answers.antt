use Rattle.rate_expr.proofs.StatesAfter.{some_after, one_after, after_exists}
use Rattle.rate_expr.proofs.laws.one_state_after_a_word.Goals as goal

pub returns-clause-some : goal.returns-clause-some
returns-clause-some c = some_after

pub returns-clause-only : goal.returns-clause-only
returns-clause-only c = one_after

pub returns-clause-exists : goal.returns-clause-exists
returns-clause-exists c = after_exists
