use Rattle.std.proofs.Common.{sym, ap, map, ◌∙◌, rules, tests}
use Rattle.std.specs.List.{list_all}
use Rattle.std.proofs.lemmas.Iterator.{YieldsList-from_slice}
use Rattle.std.proofs.lemmas.Iterator.Search.{all_from_yields_List}
use Rattle.std.proofs.lemmas.List.Folds.{list_all-map}
use Rattle.predicates.specs.Fits.{fits}
use Rattle.predicates.specs.Plain.{plain_of}
use Rattle.predicates.proofs.preds.Preds.fit.Goals as goal

pub returns : goal.returns
returns c =
    let columns = c.args.schema.now.columns in
    let preds = c.deref.result.now in
    all_from_yields_List (λ p. fits columns (plain_of p)) _ _ _ c.all.ensures.ran
    (YieldsList-from_slice preds cc) (λ x b q k. search (rules, tests))
    ∙ sym (list_all-map (fits columns) plain_of preds)
    ∙ ap (list_all (fits columns)) (ap (map plain_of) c.deref.ensures.value ∙ c.self.view_is)
