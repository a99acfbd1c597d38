use Rattle.text_reads_back.proofs.ReadsBack.{text_compiles, text_reads}
use Rattle.text_reads_back.proofs.laws.texts_read_back.Goals as goal

pub returns-clause-read : goal.returns-clause-read
returns-clause-read c = λ layout query can short. text_reads layout query can short

pub returns-clause-compiled : goal.returns-clause-compiled
returns-clause-compiled c = λ layout query can few short. text_compiles layout query can few short
