use Rattle.query_syntax.specs.Plain.{plain_program}
use Rattle.type_checker.proofs.Judging.{blame_refused}
use Rattle.type_checker.proofs.verdict.check.Goals as goal

pub returns-in-Accepted-clause-accepted : goal.returns-in-Accepted-clause-accepted
returns-in-Accepted-clause-accepted c =
    rw c.into_inner.ensures (rw c.in-Accepted.is at c.in_ok-checked.ensures.judged)

pub returns-in-Accepted-clause-places : goal.returns-in-Accepted-clause-places
returns-in-Accepted-clause-places c =
    rw c.into_inner.ensures (rw c.in-Accepted.is at c.in_ok-checked.ensures.places)

pub returns-in-Refused-clause-refused : goal.returns-in-Refused-clause-refused
returns-in-Refused-clause-refused c = (rw c.in-Refused.is at c.in_ok-checked.ensures.judged).0

pub returns-in-Ambiguous-clause-refused : goal.returns-in-Ambiguous-clause-refused
returns-in-Ambiguous-clause-refused c =
    rw (c.refusal.ensures, c.deref.ensures)
    (blame_refused (plain_program c.args.program.now) c.in-Ambiguous.blame.value
    (rw c.in-Ambiguous.is at c.in_ok-checked.ensures.judged))
