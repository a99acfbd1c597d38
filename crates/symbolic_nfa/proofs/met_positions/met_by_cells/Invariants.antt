use Rattle.symbolic_nfa.proofs.Meeting.{AreMetBelow}
use Rattle.symbolic_nfa.proofs.met_positions.met_by_cells.Given as goal

abbrev pub invariant-places : goal.invariant-places
invariant-places l = AreMetBelow l.positions l.preds.places l.cells l.met.items l.place
