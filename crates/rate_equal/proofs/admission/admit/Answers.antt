use Rattle.std.proofs.Common.{◌≡◌, ◌∙◌, Some, ap, inr, refl, rules, slice_get, subst, sym}
use Rattle.std.proofs.lemmas.Result.{err_from_is_err_and}
use Rattle.rate_equal.specs.Narrowed.{AreStatesWithin}
use Rattle.rate_equal.specs.Targets.{IsTarget}
use Rattle.rate_equal.proofs.Added.{added_more, added_none, place_added, too_many_more}
use Rattle.rate_equal.proofs.Inserted.{stands_there}
use Rattle.rate_equal.proofs.admission.admit.Goals as goal

pub returns-in-Some-clause-added : goal.returns-in-Some-clause-added
returns-in-Some-clause-added c =
    let (other, at, passes) = stands_there _ _ c.in-Some.place
    (sym c.get_index_of.ensures.index ∙ c.in-Some.is) in
    let same : c.args.pair ≡ other = search rules in
    let found : slice_get c.args.pairs.now.keys c.in-Some.place ≡ Some c.args.pair =
    at ∙ ap Some (sym same) in
    place_added _ _ _ c.args.pair _ _ _ c.requires.few found c.requires.within c.insert.ensures

pub returns-in-Some-clause-there : goal.returns-in-Some-clause-there
returns-in-Some-clause-there c = λ led.
    let (other, at, passes) = stands_there _ _ c.in-Some.place
    (sym c.get_index_of.ensures.index ∙ c.in-Some.is) in
    let same : c.args.pair ≡ other = search rules in
    let found : slice_get c.args.pairs.now.keys c.in-Some.place ≡ Some c.args.pair =
    at ∙ ap Some (sym same) in
    record {
      place = c.in-Some.place;
      found = found;
      has = (c.insert.ensures c.in-Some.place).1 (inr refl);
    }

pub returns-in_err-add-clause-too_many : goal.returns-in_err-add-clause-too_many
returns-in_err-add-clause-too_many c =
    let err = err_from_is_err_and c.from_residual.result c.from_residual.ensures.1 in
    rw (err.1, err.2) (λ is. too_many_more _ (AreStatesWithin c.args.ways) _ _ _ _ _
    (added_none (IsTarget c.args.letters.now c.args.ways) (AreStatesWithin c.args.ways)
    c.args.pairs.now.keys c.args.targets.now c.requires.few)
    (λ other same. subst (IsTarget c.args.letters.now c.args.ways) same c.if-leads.ensures)
    (c.in_err-add.ensures.too_many is c.requires.few))

pub returns-in_ok-add-clause-added : goal.returns-in_ok-add-clause-added
returns-in_ok-add-clause-added c =
    added_more (IsTarget c.args.letters.now c.args.ways) (AreStatesWithin c.args.ways) _ _ _ _ _ _
    (added_none (IsTarget c.args.letters.now c.args.ways) (AreStatesWithin c.args.ways)
    c.args.pairs.now.keys c.args.targets.now c.requires.few)
    (λ other same. subst (IsTarget c.args.letters.now c.args.ways) same c.if-leads.ensures)
    (λ other same. subst (AreStatesWithin c.args.ways) same c.requires.within) _ _
    c.in_ok-add.ensures.added
