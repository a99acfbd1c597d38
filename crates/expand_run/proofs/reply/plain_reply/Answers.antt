use Rattle.expand_run.proofs.Outcomes.{tells_refusal}
use Rattle.expand_run.proofs.reply.plain_reply.Goals as goal

pub returns-in_ok-stop_text-in-Err : goal.returns-in_ok-stop_text-in-Err
returns-in_ok-stop_text-in-Err c =
    tells_refusal c.args.text.now _ _ (rw c.in-Err.is at c.expand.ensures.stopped)
    c.in_ok-stop_text-in-Err.ensures
