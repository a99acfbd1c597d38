use Rattle.std.proofs.Common.{◌∙◌, ap, arith}
use Rattle.sqre_run.specs.Commands.{question_of, run_of}
use Rattle.sqre_run.proofs.Words.{three_words, two_words}
use Rattle.sqre_run.proofs.command.command_of.Goals as goal

pub returns-in-len2 : goal.returns-in-len2
returns-in-len2 c =
    c.question_of.ensures ∙ ap question_of c.as_str.ensures.value
    ∙ two_words _ c.args.words.now c.word-item.result (omega arith) c.word-item.is

pub returns-in-len3 : goal.returns-in-len3
returns-in-len3 c =
    c.run_of.ensures ∙ ap run_of c.as_str-in-len3.ensures.value
    ∙ three_words _ c.args.words.now c.word-item-then-words-lt4.result (omega arith)
    c.word-item-then-words-lt4.is
