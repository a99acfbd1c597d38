use Rattle.query_compiler.proofs.query.compile_text.Goals as goal

pub returns-in-Ok-Accepted-clause-accepted : goal.returns-in-Ok-Accepted-clause-accepted
returns-in-Ok-Accepted-clause-accepted c =
    let judged = rw c.in-Ok-Accepted.field-0-is at c.in-Ok-Accepted.ensures in judged.0

pub returns-in-Ok-Accepted-clause-drillable : goal.returns-in-Ok-Accepted-clause-drillable
returns-in-Ok-Accepted-clause-drillable c =
    let judged = rw c.in-Ok-Accepted.field-0-is at c.in-Ok-Accepted.ensures in judged.1

pub returns-in-Ok-Refused-clause-refused : goal.returns-in-Ok-Refused-clause-refused
returns-in-Ok-Refused-clause-refused c =
    rw c.in-Ok-Refused.field-0-is at c.in-Ok-Refused.ensures

pub returns-in-Ok-Ambiguous-clause-refused : goal.returns-in-Ok-Ambiguous-clause-refused
returns-in-Ok-Ambiguous-clause-refused c =
    rw c.in-Ok-Ambiguous.field-0-is at c.in-Ok-Ambiguous.ensures
