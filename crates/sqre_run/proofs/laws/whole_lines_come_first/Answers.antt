use Rattle.sqre_run.proofs.WholeLines.{output-front}
use Rattle.sqre_run.proofs.laws.whole_lines_come_first.Goals as goal

pub returns : goal.returns
returns c = output-front
