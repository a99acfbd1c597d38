use Rattle.std.proofs.Common.{Some, None, refl}
use Rattle.hints_run.specs.EarlySections.{IsEarlySection, early_text}
use Rattle.hints_run.proofs.Added.{added, added_none}
use Rattle.hints_run.proofs.early_section.push_early.Goals as goal

pub returns-in-Some : goal.returns-in-Some
returns-in-Some c =
    added c.push_text.result (IsEarlySection c.args.text.now c.args.checked.now)
    (early_text c.args.text.now c.in-Some.early) _ _
    (Some c.in-Some.early, rw c.in-Some.is at c.in_ok-early.ensures, refl) c.push_text.ensures

pub returns-in-None : goal.returns-in-None
returns-in-None c =
    added_none (IsEarlySection c.args.text.now c.args.checked.now) _
    (None, rw c.in-None.is at c.in_ok-early.ensures, refl)
