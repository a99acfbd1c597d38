use Rattle.view_texts.proofs.RunTexts.{as_a_run}
use Rattle.view_texts.proofs.laws.whole_numbers_are_written_as_a_run_writes_them.Goals as goal

pub returns : goal.returns
returns c = as_a_run
