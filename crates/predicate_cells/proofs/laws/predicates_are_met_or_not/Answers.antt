use Rattle.predicate_cells.proofs.MetOrNot.{met_or_not}
use Rattle.predicate_cells.proofs.laws.predicates_are_met_or_not.Goals as goal

pub returns : goal.returns
returns c = met_or_not
