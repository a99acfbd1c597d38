use Rattle.explain_run.proofs.Outcomes.{outcome_of}
use Rattle.explain_run.proofs.call.explain.Goals as goal

pub returns-in-Ok-clause-outcome : goal.returns-in-Ok-clause-outcome
returns-in-Ok-clause-outcome g c =
    outcome_of _ _ _ _ _ _ _ _ _ c.in-Ok.ensures.taken
    (rw c.as_slice.ensures.value at c.explain_text.ensures.reported)
