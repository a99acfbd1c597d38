use Rattle.separating_word.proofs.Differing.{agree_or_not}
use Rattle.separating_word.proofs.search.differ.Goals as goal

pub returns : goal.returns
returns c = agree_or_not _ _ c.accepts.ensures c.accepts-2.ensures
