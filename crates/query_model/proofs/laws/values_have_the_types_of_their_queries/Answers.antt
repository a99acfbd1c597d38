-- By induction on the query.
use Rattle.query_model.proofs.Typed.{den_typed}
use Rattle.query_model.proofs.laws.values_have_the_types_of_their_queries.Goals as goal

pub returns : goal.returns
returns c = den_typed
