use Rattle.std.proofs.lemmas.Result.{IfOk-weaker}
use Rattle.std.proofs.Common.{refl}
use Rattle.query_syntax.specs.Plain.{plain_program}
use Rattle.explain_run.proofs.Explaining.{explains_found}
use Rattle.explain_run.proofs.explanations.refusal_explained.Goals as goal

pub returns : goal.returns
returns c =
    let refusal = c.args.refusal in
    IfOk-weaker c.explained.result _ _
    (λ shown same. explains_found c.args.name.now c.args.text.now shown
    (plain_program c.args.program.now) refusal refusal c.in_ok-found.found
    c.in_ok-found.ensures refl same)
    c.explained.ensures
