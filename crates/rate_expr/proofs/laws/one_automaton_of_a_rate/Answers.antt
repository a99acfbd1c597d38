use Rattle.rate_expr.proofs.OneSets.{one_sets}
use Rattle.rate_expr.proofs.SetsOf.{are_sets_of, sets_of}
use Rattle.rate_expr.proofs.laws.one_automaton_of_a_rate.Goals as goal

pub returns-clause-some : goal.returns-clause-some
returns-clause-some c = λ rate. (sets_of rate, are_sets_of rate)

pub returns-clause-only : goal.returns-clause-only
returns-clause-only c = one_sets
