use Rattle.symbolic_nfa.proofs.Ending.{ending-all, ending-begin, ending-step}
use Rattle.symbolic_nfa.proofs.ends.ending_through.Goals as goal

pub rounds-init : goal.rounds-init
rounds-init c = rw c.last.ensures (ending-begin _ _)

pub rounds-preserved : goal.rounds-preserved
rounds-preserved c = ending-step _ _ _ _ _ c.rounds.invariant c.before-in-rounds.ensures.exact

pub returns : goal.returns
returns c = ending-all _ _ _ _ c.rounds.invariant c.rounds-test.false
