use Rattle.std.proofs.Common.{◌∙◌, ap, arith}
use Rattle.shard_run.specs.Commands.{piece_of}
use Rattle.shard_run.proofs.Words.{two_words}
use Rattle.shard_run.proofs.command.command_of.Goals as goal

pub returns-in-len2-clause-command : goal.returns-in-len2-clause-command
returns-in-len2-clause-command c =
    c.piece_of.ensures.command ∙ ap piece_of c.as_str.ensures.value
    ∙ two_words _ c.args.words.now c.word-item.result (omega arith) c.word-item.is
