use Rattle.symbolic_nfa.proofs.StatesOn.{step_along-at, step_along-below}
use Rattle.symbolic_nfa.proofs.nfa.Nfa.step_along.Goals as goal

pub returns-clause-steps : goal.returns-clause-steps
returns-clause-steps c =
    step_along-at _ _ _ _ _ c.self.view_is c.self.invariant _ _ _ c.requires
    (rw c.deref.ensures at c.index.ensures)

pub returns-clause-state : goal.returns-clause-state
returns-clause-state c =
    step_along-below _ _ _ _ _ c.self.view_is c.self.invariant _ _ _ c.requires
    (rw c.deref.ensures at c.index.ensures)
