use Rattle.symbolic_nfa.proofs.StatesOn.{met-at, tables_of}
use Rattle.symbolic_nfa.proofs.nfa.Nfa.met_by.Goals as goal

pub returns : goal.returns
returns c =
    met-at _ _ _ _ _ _ (tables_of _ _ _ _ _ c.self.view_is c.self.invariant) c.requires
    (rw c.deref.ensures at c.index.ensures)
