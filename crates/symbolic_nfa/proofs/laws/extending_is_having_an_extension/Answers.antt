use Rattle.symbolic_nfa.proofs.WordsAfter.{extends-in}
use Rattle.symbolic_nfa.proofs.laws.extending_is_having_an_extension.Goals as goal

pub returns : goal.returns
returns c = extends-in
