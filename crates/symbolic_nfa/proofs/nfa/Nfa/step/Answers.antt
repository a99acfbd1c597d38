use Rattle.symbolic_nfa.proofs.nfa.Nfa.step.Goals as goal

pub returns-clause-steps : goal.returns-clause-steps
returns-clause-steps c = c.step_along.ensures.steps _ c.ways_on.ensures
