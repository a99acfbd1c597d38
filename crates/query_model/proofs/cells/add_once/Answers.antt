use Rattle.std.proofs.Common.{◌∷◌, [], sym, subst}
use Rattle.std.proofs.lemmas.Result.{on_ok_weaker}
use Rattle.predicates.specs.Plain as predicate
use Rattle.query_model.specs.Members.{Gathers}
use Rattle.query_model.proofs.SameMembers.{gathered_new}
use Rattle.query_model.proofs.cells.add_once.Goals as goal

pub returns-in-None : goal.returns-in-None
returns-in-None c =
    let pred = predicate.plain_of c.args.pred.now in
    on_ok_weaker c.add.result (λ is. subst (Gathers c.args.preds.now (pred ∷ [])) (sym is)
    (gathered_new c.args.preds.now pred c.in-None.ensures.missing)) c.add.ensures.ok
