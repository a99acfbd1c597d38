use Rattle.std.proofs.Common.{refl}
use Rattle.shard_run.specs.Call.{unknown}
use Rattle.shard_run.specs.Pieces.{broken}
use Rattle.shard_run.proofs.Outcomes.{replied_refusal}
use Rattle.shard_run.proofs.call.shard_text.Goals as goal

pub returns-in-Ok-Accepted-clause-outcome : goal.returns-in-Ok-Accepted-clause-outcome
returns-in-Ok-Accepted-clause-outcome g c =
    (rw c.deref.ensures at c.carry_out.ensures.outcome) c.args.text.now
    (rw c.in-Ok-Accepted.field-0-is at c.in-Ok-Accepted.ensures)

pub returns-in-Ok-Refused-clause-outcome : goal.returns-in-Ok-Refused-clause-outcome
returns-in-Ok-Refused-clause-outcome g c =
    replied_refusal c.args.command c.args.text.now _
    (broken c.in-Ok-Refused.why (rw c.in-Ok-Refused.field-0-is at c.in-Ok-Refused.ensures)) _ _ _ _
    c.refused.ensures c.write_reply.ensures.replied

pub returns-in-Err-clause-outcome : goal.returns-in-Err-clause-outcome
returns-in-Err-clause-outcome g c = unknown refl refl
