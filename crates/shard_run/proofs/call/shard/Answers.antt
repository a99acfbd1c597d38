use Rattle.std.proofs.Common.{rules, sym, ap, ◌∙◌, refl}
use Rattle.shard_run.proofs.Outcomes.{asked_usage, fault_asked, memory_asked, outcome_asked}
use Rattle.shard_run.proofs.Outcomes.{outcome_usage}
use Rattle.shard_run.proofs.call.shard.Goals as goal

pub returns-in-Ok-clause-usage : goal.returns-in-Ok-clause-usage
returns-in-Ok-clause-usage g c =
    asked_usage c.in-Some.command _ (sym c.in-Some.is ∙ c.command_of.ensures.command) _
    (outcome_usage _ _ _ _ _ c.shard_text.ensures.outcome)

pub returns-in-Ok-clause-outcome : goal.returns-in-Ok-clause-outcome
returns-in-Ok-clause-outcome g c =
    outcome_asked _ _ _ _ _ _ c.in-Some.command _
    (sym c.in-Some.is ∙ c.command_of.ensures.command) _ c.in-Ok.ensures.taken _
    (rw c.as_slice.ensures.value at c.shard_text.ensures.outcome)

pub returns-in-Err-Failed-clause-outcome : goal.returns-in-Err-Failed-clause-outcome
returns-in-Err-Failed-clause-outcome g c =
    fault_asked _ _ _ _ _ _ c.in-Some.command _
    (sym c.in-Some.is ∙ c.command_of.ensures.command)
    (c.in-Err-Failed.ensures.failed (search rules)) refl

pub returns-in-Err-Memory-clause-outcome : goal.returns-in-Err-Memory-clause-outcome
returns-in-Err-Memory-clause-outcome g c =
    let kept = c.in-Err-Memory.ensures.memory (search rules) in
    memory_asked _ _ _ _ _ _ c.in-Some.command _
    (sym c.in-Some.is ∙ c.command_of.ensures.command)
    (ap g.Q.Source.left kept, ap g.Q.Source.ends kept) refl
