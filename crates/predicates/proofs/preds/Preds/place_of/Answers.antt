use Rattle.std.proofs.Common.{◌≡◌, map, ap, ◌∙◌, rules, tests}
use Rattle.std.proofs.lemmas.Iterator.{IsFirst-from_position, YieldsList-from_slice}
use Rattle.predicates.specs.Plain.{plain_of}
use Rattle.predicates.proofs.Mapped.{image_at_place, no_image}
use Rattle.predicates.proofs.preds.Preds.place_of.Goals as goal

pub returns : goal.returns
returns c =
    let pred = plain_of c.args.pred.now in
    let preds = c.deref.result.now in
    let searches = IsFirst-from_position _ _ _ (λ p. plain_of p ≡ pred) (λ p. plain_of p ≡ pred → ⊥)
    c.position.ensures.ran (YieldsList-from_slice preds cc) (λ x q k. search (rules, tests))
    (λ x q k. search (rules, tests)) in
    let is = ap (map plain_of) c.deref.ensures.value ∙ c.self.view_is in
    record {
      found = rw (← is) (image_at_place plain_of preds pred c.position.result searches);
      missing = rw (← is) (no_image plain_of preds pred c.position.result searches);
    }
