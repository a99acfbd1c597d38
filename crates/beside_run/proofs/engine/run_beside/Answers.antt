use Rattle.beside_run.proofs.Outcomes.{ended_for, nothing_done}
use Rattle.beside_run.proofs.engine.run_beside.Goals as goal

pub returns-in-Ok-clause-ended : goal.returns-in-Ok-clause-ended
returns-in-Ok-clause-ended g c =
    ended_for _ _ c.in-Ok.ensures.queries _ _ _ c.write_beside.ensures.ended

pub returns-in-Err-clause-ended : goal.returns-in-Err-clause-ended
returns-in-Err-clause-ended g c = nothing_done _ _
