use Rattle.std.proofs.Common.{refl}
use Rattle.hints_run.specs.Call.{carries, refuses}
use Rattle.hints_run.proofs.Carried.{blame_refuses, past_refused}
use Rattle.hints_run.proofs.text_run.run_text.Goals as goal

pub returns-in-Ok-clause-outcome : goal.returns-in-Ok-clause-outcome
returns-in-Ok-clause-outcome g c =
    carries c.in-Ok.checked.value c.in-Ok.ensures.accepted c.in-Ok.ensures.kept
    (rw c.deref.ensures at c.carry_out.ensures.carries)

pub returns-in-Err-Refused-clause-outcome : goal.returns-in-Err-Refused-clause-outcome
returns-in-Err-Refused-clause-outcome g c =
    let is = rw c.in-Err-Refused.field-0-is at c.in-Err-Refused.ensures.refused in
    refuses c.in-Err-Refused.why is.0 (
      refl,
      c.refusal_text.result,
      rw c.in-Err-Refused.field-0-is at c.refusal_text.ensures,
      c.refuse.ensures.refuses,
    )

pub returns-in-Err-Ambiguous-clause-outcome : goal.returns-in-Err-Ambiguous-clause-outcome
returns-in-Err-Ambiguous-clause-outcome g c =
    let blame = c.in-Err-Ambiguous.blame.value in
    let is = rw c.in-Err-Ambiguous.field-0-is at c.in-Err-Ambiguous.ensures.refused in
    refuses _ (blame_refuses c.args.text.now blame is) (
      refl,
      c.refusal_text-in-Err-Ambiguous.result,
      (rw (c.refusal.ensures, c.deref-in-Err-Ambiguous.ensures, c.in-Err-Ambiguous.field-0-is)
          at c.refusal_text-in-Err-Ambiguous.ensures),
      c.refuse-in-Err-Ambiguous.ensures.refuses,
    )

pub returns-in-Err-Refused-clause-past : goal.returns-in-Err-Refused-clause-past
returns-in-Err-Refused-clause-past g c = past_refused _ _ _ _ c.refuse.ensures.refuses

pub returns-in-Err-Ambiguous-clause-past : goal.returns-in-Err-Ambiguous-clause-past
returns-in-Err-Ambiguous-clause-past g c =
    past_refused _ _ _ _ c.refuse-in-Err-Ambiguous.ensures.refuses
