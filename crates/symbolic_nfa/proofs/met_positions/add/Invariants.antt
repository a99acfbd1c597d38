use Rattle.symbolic_nfa.proofs.Adding.{AreAdded}
use Rattle.symbolic_nfa.proofs.met_positions.add.Given as goal

abbrev pub invariant-cells : goal.invariant-cells
invariant-cells l = AreAdded l.fn.masks l.masks l.cell l.positions l.set
