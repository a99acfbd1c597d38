use Rattle.std.proofs.Common.{option_copied, option_map, sym, ap, ◌∙◌}
use Rattle.query_syntax.specs.Plain.{plain_let, plain_query}
use Rattle.explanation.specs.Culprits.{query_or}
use Rattle.explanation.proofs.LetPlaces.{query_found}
use Rattle.explanation.proofs.culprit_search.query_at.Goals as goal

pub returns-in-Some : goal.returns-in-Some
returns-in-Some c =
    let main = plain_query c.args.program.now.main.query.value in
    rw c.deref-in-Some.ensures
    (ap (λ o. query_or (option_map plain_let (option_copied o)) main) (sym c.in-Some.is)
    ∙ query_found c.args.place _ main _ (rw c.deref.ensures.value at c.let_at.ensures))

pub returns-in-None : goal.returns-in-None
returns-in-None c =
    let main = plain_query c.args.program.now.main.query.value in
    rw c.deref-in-None.ensures
    (ap (λ o. query_or (option_map plain_let (option_copied o)) main) (sym c.in-None.is)
    ∙ query_found c.args.place _ main _ (rw c.deref.ensures.value at c.let_at.ensures))
