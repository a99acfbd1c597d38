use Rattle.std.proofs.Common.{ap, inl, rules}
use Rattle.snapshot_run.proofs.Reading.{outcome_of_read}
use Rattle.snapshot_run.proofs.saving.save_query.Goals as goal

pub returns-in-Ok-clause-outcome : goal.returns-in-Ok-clause-outcome
returns-in-Ok-clause-outcome g c =
    outcome_of_read _ _ _ c.in-Ok.text.items c.in-Ok.ensures.taken c.save_text.ensures.past
    (rw c.as_slice.ensures.value at c.save_text.ensures.saves)

pub returns-in-Err-Memory-clause-read : goal.returns-in-Err-Memory-clause-read
returns-in-Err-Memory-clause-read g c =
    let kept = c.in-Err-Memory.ensures.memory (search rules) in
    inl (ap g.Q.Source.left kept, ap g.Q.Source.ends kept)
