use Rattle.std.proofs.Common.{refl}
use Rattle.snapshot_run.specs.GoingOn.{bad}
use Rattle.snapshot_run.proofs.GoingOn.{early_flaw}
use Rattle.snapshot_run.proofs.LastLines.{past_by_line}
use Rattle.snapshot_run.proofs.Reading.{left_so, outcome_of_snapshot}
use Rattle.snapshot_run.proofs.going_on.go_on.Goals as goal

pub returns-in-Ok-clause-outcome : goal.returns-in-Ok-clause-outcome
returns-in-Ok-clause-outcome g c =
    left_so _ _ _
    (λ bytes opened. outcome_of_snapshot _ _ _ c.args.onward bytes c.go_on_from.ensures.past
    (c.go_on_from.ensures.goes_on bytes opened))
    c.in-Ok.ensures.opened

pub returns-in-Err-Bad-clause-outcome : goal.returns-in-Err-Bad-clause-outcome
returns-in-Err-Bad-clause-outcome g c =
    let flaw = c.in-Err-Bad.flaw in
    let ends = rw c.in-Err-Bad.flaw-is at c.write_flaw.ensures.ends in
    left_so _ _ _
    (λ bytes is. outcome_of_snapshot _ _ _ c.args.onward bytes (past_by_line ends tt)
    (bad flaw (early_flaw bytes flaw is) refl ends))
    (rw c.in-Err-Bad.field-0-is at c.in-Err-Bad.ensures.bad)
