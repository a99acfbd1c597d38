use Rattle.explain_run.proofs.Explaining.{explains_unread}
use Rattle.explain_run.proofs.query.explanation_of.Goals as goal

pub returns-in_ok-text_explanation-in-Err-Refused :
    goal.returns-in_ok-text_explanation-in-Err-Refused
returns-in_ok-text_explanation-in-Err-Refused c =
    explains_unread _ _ _ c.in-Err-Refused.refusal
    (rw c.in-Err-Refused.refusal-is
    (rw c.in-Err-Refused.field-0-is at c.in-Err-Refused.ensures.stopped))
    c.in_ok-text_explanation-in-Err-Refused.ensures
