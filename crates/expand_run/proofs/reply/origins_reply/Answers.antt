use Rattle.expand_run.proofs.Stopping.{tells_stop}
use Rattle.expand_run.proofs.reply.origins_reply.Goals as goal

pub returns-in_ok-stop_text-in-Err : goal.returns-in_ok-stop_text-in-Err
returns-in_ok-stop_text-in-Err c =
    tells_stop c.args.text.now _ _ (rw c.in-Err.is at c.origin_lines.ensures.stopped)
    c.in_ok-stop_text-in-Err.ensures
