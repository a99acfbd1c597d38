use Rattle.query_syntax.specs.Plain.{plain_program}
use Rattle.query_syntax.proofs.WithinLimits.{stream_within}
use Rattle.query_compiler.proofs.Checks.{judgment_of_text}
use Rattle.query_compiler.proofs.Unread.{unread_refused}
use Rattle.query_compiler.proofs.query.judge_text.Goals as goal

pub returns-in-Err-Refused : goal.returns-in-Err-Refused
returns-in-Err-Refused c =
    unread_refused _ _ (rw c.in-Err-Refused.refusal-is
    (rw c.in-Err-Refused.field-0-is at c.in-Err-Refused.ensures.stopped))

pub judge-requires : goal.judge-requires
judge-requires c = stream_within _ (plain_program c.in-Ok.program) c.in-Ok.ensures.read.has.fit

pub returns : goal.returns
returns c =
    let program = plain_program c.in-Ok.program in
    judgment_of_text c.args.text.now program c.in-Ok.ensures.read
    (stream_within _ program c.in-Ok.ensures.read.has.fit) c.judge.result c.judge.ensures.judged
