use Rattle.std.proofs.Common.{◌≡◌, rules, subst, sym}
use Rattle.query_model.specs.Queries.{plain_of}
use Rattle.answer_units.specs.Units.{HasFewDigits, answer_units}
use Rattle.answer_units.proofs.FewDigits.{answers_few}
use Rattle.answer_units.proofs.answer.answer_units.Goals as goal

pub returns-clause-few : goal.returns-clause-few
returns-clause-few c =
    let on = c.args.checked.now in
    let is : c.common.result ≡ answer_units on.layout.columns (plain_of on.main.shape) =
    search rules
    in
    subst HasFewDigits (sym is) (answers_few on.layout.columns (plain_of on.main.shape))
