use Rattle.symbolic_nfa.proofs.WordsAfter.{is_accepted-in}
use Rattle.symbolic_nfa.proofs.laws.acceptance_is_membership.Goals as goal

pub returns : goal.returns
returns c = is_accepted-in
