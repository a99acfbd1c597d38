use Rattle.query_model.specs.Monitors.{monitor_of}
use Rattle.query_syntax.specs.Plain.{plain_program}
use Rattle.explain_run.proofs.Explaining.{accepts_judged, explains_blamed, explains_judged}
use Rattle.explain_run.proofs.query.explanation_by.Goals as goal

pub returns-in-Accepted : goal.returns-in-Accepted
returns-in-Accepted c =
    accepts_judged _ (plain_program c.args.program.now)
    (monitor_of c.in-Accepted._checked.value) c.requires.file
    (rw c.in-Accepted.is at c.requires.judged)

pub refusal_explained-requires : goal.refusal_explained-requires
refusal_explained-requires c = (rw c.in-Refused.is at c.requires.judged).1

pub returns-in_ok-refusal_explained-in-Refused : goal.returns-in_ok-refusal_explained-in-Refused
returns-in_ok-refusal_explained-in-Refused c =
    explains_judged _ _ _ (plain_program c.args.program.now) _ c.requires.file
    (rw c.in-Refused.is at c.requires.judged).0 c.in_ok-refusal_explained-in-Refused.ensures

pub blame_explained-requires-clause-blamed : goal.blame_explained-requires-clause-blamed
blame_explained-requires-clause-blamed c =
    rw c.deref.ensures (rw c.in-Ambiguous.is at c.requires.judged)

pub returns-in_ok-blame_explained-in-Ambiguous : goal.returns-in_ok-blame_explained-in-Ambiguous
returns-in_ok-blame_explained-in-Ambiguous c =
    explains_blamed _ _ _ (plain_program c.args.program.now) _ c.requires.file
    (rw c.in-Ambiguous.is at c.requires.judged)
    (rw c.deref.ensures at c.in_ok-blame_explained-in-Ambiguous.ensures)
