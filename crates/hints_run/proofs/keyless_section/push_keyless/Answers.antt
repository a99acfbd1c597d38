use Rattle.std.proofs.Common.{Some, None, refl}
use Rattle.hints_run.specs.KeylessSections.{IsKeylessSection, keyless_text}
use Rattle.hints_run.proofs.Added.{added, added_none}
use Rattle.hints_run.proofs.keyless_section.push_keyless.Goals as goal

pub returns-in-Some : goal.returns-in-Some
returns-in-Some c =
    added c.push_text.result (IsKeylessSection c.args.text.now c.args.checked.now)
    (keyless_text c.args.text.now c.in-Some.span) _ _
    (Some c.in-Some.span, rw c.in-Some.is at c.in_ok-span.ensures, refl) c.push_text.ensures

pub returns-in-None : goal.returns-in-None
returns-in-None c =
    added_none (IsKeylessSection c.args.text.now c.args.checked.now) _
    (None, rw c.in-None.is at c.in_ok-span.ensures, refl)
