use Rattle.eval_nodes.specs.Plain.{seen_of}
use Rattle.snapshot_laws.proofs.Returning.{follows}
use Rattle.snapshot_laws.proofs.laws.runners_follow_the_words_of_their_dumps.Goals as goal

pub returns : goal.returns
returns c = λ columns query word runner sound its is.
    follows seen_of columns query runner word sound.node its is.1
