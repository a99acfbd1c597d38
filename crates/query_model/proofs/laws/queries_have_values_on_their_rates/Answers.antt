-- By induction on the query, in each direction.
use Rattle.query_model.proofs.Defined.{in_den}
use Rattle.query_model.proofs.InRates.{den_in}
use Rattle.query_model.proofs.laws.queries_have_values_on_their_rates.Goals as goal

pub returns-clause-only : goal.returns-clause-only
returns-clause-only c = den_in

pub returns-clause-each : goal.returns-clause-each
returns-clause-each c = in_den
