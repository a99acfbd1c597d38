-- For the prover. The reply to a command about a text.
use Rattle.std.specs.Prelude.{ℕ, List}
use Rattle.expand_run.specs.Answers.{Answers, Refuses}
use Rattle.expand_run.specs.declared.command.Command.{Command}
use Rattle.expand_run.specs.declared.reply.Reply.{Reply}
use Rattle.expand_run.specs.declared.reply.Reply.TheVariants.{Answer, Refusal}

-- it has the lines that the command writes
abbrev pub IsReplyTo : Command → List ℕ → Reply → Type 0
IsReplyTo command text (Answer lines) = Answers command text lines
IsReplyTo command text (Refusal lines) = Refuses command text lines
