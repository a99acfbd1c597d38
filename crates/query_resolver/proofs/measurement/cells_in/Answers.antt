use Rattle.query_resolver.proofs.Fitting.{all_fit}
use Rattle.query_resolver.proofs.measurement.cells_in.Goals as goal

pub cells_of-requires : goal.cells_of-requires
cells_of-requires c = all_fit _ _ c.requires

pub returns-in-Ok-clause-members : goal.returns-in-Ok-clause-members
returns-in-Ok-clause-members c = λ pred. (c.in-Ok.ensures.members pred).1
