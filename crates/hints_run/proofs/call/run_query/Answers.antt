use Rattle.std.proofs.Common.{ap, inl, rules}
use Rattle.hints_run.proofs.Reading.{outcome_of_read, reads_past}
use Rattle.hints_run.proofs.call.run_query.Goals as goal

pub returns-in-Ok-clause-outcome : goal.returns-in-Ok-clause-outcome
returns-in-Ok-clause-outcome g c =
    outcome_of_read c.args.command _ _ c.in-Ok.text.items c.in-Ok.ensures.taken _
    c.run_text.ensures.past (rw c.as_slice.ensures.value at c.run_text.ensures.outcome)

pub returns-in-Ok-clause-read : goal.returns-in-Ok-clause-read
returns-in-Ok-clause-read g c =
    reads_past c.in-Ok.text.items c.in-Ok.ensures.taken _ c.run_text.ensures.past

pub returns-in-Err-Memory-clause-read : goal.returns-in-Err-Memory-clause-read
returns-in-Err-Memory-clause-read g c =
    let kept = c.in-Err-Memory.ensures.memory (search rules) in
    inl (ap g.Q.Source.left kept, ap g.Q.Source.ends kept)
