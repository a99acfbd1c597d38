use Rattle.query_compiler.specs.Compiled.{judged}
use Rattle.query_syntax.proofs.WithinLimits.{stream_within}
use Rattle.query_syntax.specs.Plain.{plain_program}
use Rattle.type_checker.proofs.Judging.{blame_refused}
use Rattle.type_checker.specs.Blames.{refusal_of}
use Rattle.type_checker.specs.Judged.{refused}
use Rattle.shard_run.proofs.Judging.{accepts}
use Rattle.shard_run.proofs.judged.program_judged.Goals as goal

pub judge-requires : goal.judge-requires
judge-requires c = stream_within _ (plain_program c.args.program.now) c.requires.has.fit

pub returns-in-Accepted : goal.returns-in-Accepted
returns-in-Accepted c =
    accepts c.args.text.now (plain_program c.args.program.now) c.in-Accepted.checked.value
    c.requires (rw c.in-Accepted.is at c.in_ok-checked.ensures.judged)
    (rw c.in-Accepted.is at c.in_ok-checked.ensures.places)

pub returns-in-Refused : goal.returns-in-Refused
returns-in-Refused c =
    judged (plain_program c.args.program.now) (refused c.in-Refused.refusal) c.requires
    (rw c.in-Refused.is at c.in_ok-checked.ensures.judged).0

pub returns-in-Ambiguous : goal.returns-in-Ambiguous
returns-in-Ambiguous c =
    let program = plain_program c.args.program.now in
    let blame = c.in-Ambiguous.blame.value in
    let blamed = rw c.in-Ambiguous.is at c.in_ok-checked.ensures.judged in
    rw (c.refusal.ensures, c.deref.ensures)
    (judged program (refused (refusal_of blame)) c.requires (blame_refused program blame blamed))
