use Rattle.std.proofs.Common.{◌≡◌, length, Some, None, option_copied, refl, sym, ap, ◌∙◌}
use Rattle.std.proofs.lemmas.Option.{slice_get_read}
use Rattle.query_syntax.specs.Plain.{plain_query}
use Rattle.query_lets.proofs.Building.{place_of}
use Rattle.query_lets.proofs.Leading.{leads, no_place, place_after}
use Rattle.query_lets.proofs.scope.Scope.after_name.Goals as goal

pub returns-in_err-place-clause-root : goal.returns-in_err-place-clause-root
returns-in_err-place-clause-root c =
    let found : place_of c.args.self.places.now c.in-Name.name.bytes ≡ None =
    sym (c.get.ensures.value ∙ ap (place_of c.args.self.places.now) c.as_slice.ensures)
    ∙ ap option_copied c.in_err-place.was in
    rw c.from_residual.ensures
    (no_place c.args.self.places.now c.args.self c.requires c.in-Name.name
    (ap plain_query c.in-Name.is) found)

pub returns-in_err-one-clause-root : goal.returns-in_err-one-clause-root
returns-in_err-one-clause-root c =
    let place = c.in_ok-place.field-0.now in
    let found : place_of c.args.self.places.now c.in-Name.name.bytes ≡ Some place =
    sym (c.get.ensures.value ∙ ap (place_of c.args.self.places.now) c.as_slice.ensures)
    ∙ ap option_copied c.in_ok-place.was in
    rw c.from_residual-in_err-one.ensures
    (place_after c.args.self.places.now c.args.self c.requires c.in-Name.name
    (ap plain_query c.in-Name.is) place found c.in_err-one.ensures.lookup.3)

pub returns-clause-leads : goal.returns-clause-leads
returns-clause-leads c =
    let place = c.in_ok-place.field-0.now in
    let found : place_of c.args.self.places.now c.in-Name.name.bytes ≡ Some place =
    sym (c.get.ensures.value ∙ ap (place_of c.args.self.places.now) c.as_slice.ensures)
    ∙ ap option_copied c.in_ok-place.was in
    let one = c.in_ok-one.one.now in
    leads c.args.self.places.now c.args.self c.requires c.in-Name.name
    (ap plain_query c.in-Name.is) place found one
    (slice_get_read c.args.self.lets.now (length c.args.self.lets.now) place one refl
    c.in_ok-one.ensures.lookup.3.0 c.in_ok-one.ensures.lookup.1) _ refl c.deref.ensures refl
