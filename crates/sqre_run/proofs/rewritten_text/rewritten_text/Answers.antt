use Rattle.query_model.specs.Monitors.{monitor_of}
use Rattle.sqre_run.proofs.RewrittenQueries.{text_made}
use Rattle.sqre_run.proofs.rewritten_text.rewritten_text.Goals as goal

pub returns : goal.returns
returns c =
    let made = c.in_ok-rewritten.ensures in
    text_made (monitor_of c.args.checked.now) _ _ made.stream
    (record { rules = made.rules; plain = made.plain; values = made.values; slots = made.slots }) _
    c.text_of.ensures.text
