use Rattle.template_expansion.proofs.Again.{read_again}
use Rattle.template_expansion.proofs.laws.an_expansion_reads_back.Goals as goal

pub returns : goal.returns
returns c = read_again
