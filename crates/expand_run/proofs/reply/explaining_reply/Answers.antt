use Rattle.expand_run.proofs.Outcomes.{explains_refusal}
use Rattle.expand_run.proofs.reply.explaining_reply.Goals as goal

pub returns-in_ok-stop_explanation-in-Err : goal.returns-in_ok-stop_explanation-in-Err
returns-in_ok-stop_explanation-in-Err c =
    explains_refusal c.args.text.now _ _ (rw c.in-Err.is at c.expand.ensures.stopped)
    c.in_ok-stop_explanation-in-Err.ensures
