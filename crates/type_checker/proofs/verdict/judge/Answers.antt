use Rattle.query_syntax.specs.Plain.{plain_program}
use Rattle.type_checker.proofs.Judging.{unmeasured_refused}
use Rattle.type_checker.proofs.Answered.{answered_ok}
use Rattle.type_checker.proofs.verdict.judge.Goals as goal

pub judge_words-requires : goal.judge_words-requires
judge_words-requires c = (plain_program c.args.program.now, c.in-Ok.ensures.measured)

pub returns-in-Ok-clause-judged : goal.returns-in-Ok-clause-judged
returns-in-Ok-clause-judged c =
    answered_ok c.judge_words.result _ _ c.judge_words.ensures.judged
    (λ judgment each. each (plain_program c.args.program.now) c.in-Ok.ensures.measured)

pub returns-in-Ok-clause-places : goal.returns-in-Ok-clause-places
returns-in-Ok-clause-places c =
    answered_ok c.judge_words.result _ _ c.judge_words.ensures.places
    (λ judgment each. each (plain_program c.args.program.now) c.in-Ok.ensures.measured)

pub returns-in-Err-Refused-clause-judged : goal.returns-in-Err-Refused-clause-judged
returns-in-Err-Refused-clause-judged c =
    unmeasured_refused (plain_program c.args.program.now) _
    (rw c.in-Err-Refused.why-is
    (rw c.in-Err-Refused.field-0-is at c.in-Err-Refused.ensures.refused))
