use Rattle.query_compiler.specs.Compiled.{unread}
use Rattle.shard_run.proofs.judged.judge_text.Goals as goal

pub returns-in-Err-Refused : goal.returns-in-Err-Refused
returns-in-Err-Refused c =
    unread _ (rw c.in-Err-Refused.refusal-is
    (rw c.in-Err-Refused.field-0-is at c.in-Err-Refused.ensures.stopped))
