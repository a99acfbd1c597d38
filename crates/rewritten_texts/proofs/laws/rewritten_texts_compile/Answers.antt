use Rattle.text_reads_back.proofs.ReadsBack.{text_compiles}
use Rattle.rewritten_texts.proofs.CompiledQueries.{can_be_written, reaches_few}
use Rattle.rewritten_texts.proofs.WrittenKept.{few_kept, written_kept}
use Rattle.rewritten_texts.proofs.laws.rewritten_texts_compile.Goals as goal

pub returns : goal.returns
returns c = λ text layout query other bytes compiles rewrites short.
    let can = can_be_written text layout query bytes compiles in
    text_compiles layout other (written_kept layout query other can rewrites)
    (few_kept layout query other can rewrites (reaches_few text layout query compiles)) short
