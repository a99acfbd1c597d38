use Rattle.rewritten_texts.proofs.CompiledQueries.{can_be_written, reaches_few}
use Rattle.rewritten_texts.proofs.laws.compiled_queries_can_be_written.Goals as goal

pub returns-clause-written : goal.returns-clause-written
returns-clause-written c = can_be_written

pub returns-clause-reach : goal.returns-clause-reach
returns-clause-reach c = reaches_few
