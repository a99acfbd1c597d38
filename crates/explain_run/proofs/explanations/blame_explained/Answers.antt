use Rattle.std.proofs.lemmas.Result.{IfOk-weaker}
use Rattle.query_syntax.specs.Plain.{plain_program}
use Rattle.type_checker.specs.Blames.{refusal_of}
use Rattle.explain_run.specs.declared.findings.Found.TheVariants.{Readings}
use Rattle.explain_run.proofs.Blaming.{draws_why}
use Rattle.explain_run.proofs.Explaining.{explains_found}
use Rattle.explain_run.proofs.explanations.blame_explained.Goals as goal

pub drawn_readings-requires : goal.drawn_readings-requires
drawn_readings-requires c = (plain_program c.args.program.now, c.requires.blamed)

pub returns : goal.returns
returns c =
    let program = plain_program c.args.program.now in
    let blame = c.args.blame.now in
    let drawn = c.in_ok-drawn_readings.field-0 in
    let draws = draws_why c.args.text.now drawn program blame c.requires.file c.requires.blamed
    c.in_ok-drawn_readings.ensures
    in
    IfOk-weaker c.explained.result _ _
    (λ shown same. explains_found c.args.name.now c.args.text.now shown program (refusal_of blame)
    c.refusal.result (Readings drawn) draws c.refusal.ensures same)
    c.explained.ensures
