use Rattle.symbolic_nfa.proofs.WordsAfter.{is_after-step}
use Rattle.symbolic_nfa.proofs.laws.steps_lead_on.Goals as goal

pub returns-clause-continues : goal.returns-clause-continues
returns-clause-continues c = is_after-step
