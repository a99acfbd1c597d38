use Rattle.std.proofs.Common.{◌∙◌, ap, arith}
use Rattle.expand_run.specs.Commands.{question_of}
use Rattle.expand_run.proofs.Words.{two_words}
use Rattle.expand_run.proofs.command.command_of.Goals as goal

pub returns-in-len2 : goal.returns-in-len2
returns-in-len2 c =
    c.question_of.ensures ∙ ap question_of c.as_str.ensures.value
    ∙ two_words _ c.args.words.now c.word-item.result (omega arith) c.word-item.is
