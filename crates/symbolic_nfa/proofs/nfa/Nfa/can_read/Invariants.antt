use Rattle.std.specs.List.{Contains}
use Rattle.symbolic_nfa.proofs.Lists.{AllBelow}
use Rattle.symbolic_nfa.proofs.nfa.Nfa.can_read.Given as goal

abbrev pub invariant-places : goal.invariant-places
invariant-places l = AllBelow (λ pred. Contains l.cells.preds pred) l.preds l.place
