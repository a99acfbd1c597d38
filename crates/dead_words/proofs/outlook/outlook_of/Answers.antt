use Rattle.dead_words.proofs.Telling.{tells_result}
use Rattle.dead_words.proofs.outlook.outlook_of.Goals as goal

pub returns : goal.returns
returns c = λ rate are. tells_result c.args.nfa.now rate are c.search.result c.search.ensures
