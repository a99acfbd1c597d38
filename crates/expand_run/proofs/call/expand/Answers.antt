use Rattle.std.proofs.Common.{rules, sym, ap, ◌∙◌, refl}
use Rattle.expand_run.proofs.Outcomes.{asked_usage, fault_asked, memory_asked, written_asked}
use Rattle.expand_run.proofs.call.expand.Goals as goal

pub returns-in-Ok-clause-usage : goal.returns-in-Ok-clause-usage
returns-in-Ok-clause-usage g c =
    asked_usage c.in-Some.command _ (sym c.in-Some.is ∙ c.command_of.ensures) _
    c.carry_out.ensures.read.0

pub returns-in-Ok-clause-outcome : goal.returns-in-Ok-clause-outcome
returns-in-Ok-clause-outcome g c =
    written_asked _ _ _ _ _ _ c.in-Some.command _ (sym c.in-Some.is ∙ c.command_of.ensures) _
    c.in-Ok.ensures.taken _ (rw c.as_slice.ensures.value at c.carry_out.ensures.written)

pub returns-in-Err-Failed-clause-outcome : goal.returns-in-Err-Failed-clause-outcome
returns-in-Err-Failed-clause-outcome g c =
    fault_asked _ _ _ _ _ _ c.in-Some.command _ (sym c.in-Some.is ∙ c.command_of.ensures)
    (c.in-Err-Failed.ensures.failed (search rules)) refl

pub returns-in-Err-Memory-clause-outcome : goal.returns-in-Err-Memory-clause-outcome
returns-in-Err-Memory-clause-outcome g c =
    let kept = c.in-Err-Memory.ensures.memory (search rules) in
    memory_asked _ _ _ _ _ _ c.in-Some.command _ (sym c.in-Some.is ∙ c.command_of.ensures)
    (ap g.Q.Source.left kept, ap g.Q.Source.ends kept, refl)
