use Rattle.rewritten_texts.proofs.WrittenKept.{few_kept, written_kept}
use Rattle.rewritten_texts.proofs.laws.rewriting_keeps_what_can_be_written.Goals as goal

pub returns-clause-written : goal.returns-clause-written
returns-clause-written c = written_kept

pub returns-clause-reach : goal.returns-clause-reach
returns-clause-reach c = few_kept
