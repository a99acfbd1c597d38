use Rattle.std.proofs.Common.{refl, sym, ◌∙◌}
use Rattle.query_model.specs.Monitors.{monitor_of}
use Rattle.view_run.proofs.Outcomes.{asked_usage, blamed_text, carried_asked}
use Rattle.view_run.proofs.Outcomes.{carried_usage, fault_asked, items_asked, memory_asked}
use Rattle.view_run.proofs.Outcomes.{refused_asked, refused_text, same_items}
use Rattle.view_run.proofs.call.view.Goals as goal

pub returns-in-Ok-clause-outcome : goal.returns-in-Ok-clause-outcome
returns-in-Ok-clause-outcome g c =
    carried_asked _ _ _ _ _ _ c.in-Ok.ensures.read c.in-Some.command _
    (sym c.in-Some.is ∙ c.command_of.ensures) _ (monitor_of c.in-Ok.checked.value)
    c.in-Ok.ensures.accepted c.in-Ok.ensures.kept
    (rw c.deref.ensures at c.carry_out.ensures.carries)

pub returns-in-Err-Refused-clause-outcome : goal.returns-in-Err-Refused-clause-outcome
returns-in-Err-Refused-clause-outcome g c =
    refused_asked _ _ _ _ _ _ (rw c.in-Err-Refused.field-0-is at c.in-Err-Refused.ensures.read)
    c.in-Some.command _ (sym c.in-Some.is ∙ c.command_of.ensures) _ c.in-Err-Refused.why
    (refused_text _ _ (rw c.in-Err-Refused.field-0-is at c.in-Err-Refused.ensures.refused)) _
    (rw c.in-Err-Refused.why-is at c.refusal_text.ensures) refl c.refuse.ensures.refuses

pub returns-in-Err-Ambiguous-clause-outcome : goal.returns-in-Err-Ambiguous-clause-outcome
returns-in-Err-Ambiguous-clause-outcome g c =
    refused_asked _ _ _ _ _ _
    (rw c.in-Err-Ambiguous.field-0-is at c.in-Err-Ambiguous.ensures.read) c.in-Some.command _
    (sym c.in-Some.is ∙ c.command_of.ensures) _ _
    (blamed_text _ _ (rw c.in-Err-Ambiguous.field-0-is at c.in-Err-Ambiguous.ensures.refused)) _
    (rw (c.refusal.ensures, c.deref-in-Err-Ambiguous.ensures, c.in-Err-Ambiguous.blame-is)
    at c.refusal_text-in-Err-Ambiguous.ensures) refl c.refuse-in-Err-Ambiguous.ensures.refuses

pub returns-in-Err-Failed-clause-outcome : goal.returns-in-Err-Failed-clause-outcome
returns-in-Err-Failed-clause-outcome g c =
    fault_asked _ _ _ _ _ _ c.in-Some.command _ (sym c.in-Some.is ∙ c.command_of.ensures)
    (rw c.in-Err-Failed.field-0-is at c.in-Err-Failed.ensures.read) refl

pub returns-in-Err-Memory-clause-outcome : goal.returns-in-Err-Memory-clause-outcome
returns-in-Err-Memory-clause-outcome g c =
    memory_asked _ _ _ _ _ _ c.in-Some.command _ (sym c.in-Some.is ∙ c.command_of.ensures)
    (rw c.in-Err-Memory.field-0-is at c.in-Err-Memory.ensures.read) refl

pub returns-in-Ok-clause-usage : goal.returns-in-Ok-clause-usage
returns-in-Ok-clause-usage g c =
    asked_usage c.in-Some.command _ (sym c.in-Some.is ∙ c.command_of.ensures) _
    (carried_usage c.in-Some.command _ _ _ _ c.carry_out.ensures.carries)

pub returns-in-Ok-clause-items : goal.returns-in-Ok-clause-items
returns-in-Ok-clause-items g c =
    items_asked c.in-Some.command _ (sym c.in-Some.is ∙ c.command_of.ensures) _ _ _
    c.carry_out.ensures.items

pub returns-in-Err-Refused-clause-items : goal.returns-in-Err-Refused-clause-items
returns-in-Err-Refused-clause-items g c = same_items _ _ _

pub returns-in-Err-Ambiguous-clause-items : goal.returns-in-Err-Ambiguous-clause-items
returns-in-Err-Ambiguous-clause-items g c = same_items _ _ _
