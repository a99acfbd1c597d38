use Rattle.std.proofs.Common.{map, subst}
use Rattle.std.proofs.lemmas.List.{take_all}
use Rattle.query_syntax.specs.Plain.{plain_let}
use Rattle.query_lets.specs.Places.{ArePlaces}
use Rattle.query_lets.proofs.Building.{built_step}
use Rattle.query_lets.proofs.scope.places_in.Goals as goal

pub lets-preserved : goal.lets-preserved
lets-preserved c =
    built_step c.lets.places c.insert.new.self c.args.lets.now c.lets.place
    c.index-lets-place.result c.index-lets-place.is
    c.lets-test.true c.as_slice.result c.as_slice.ensures c.lets.invariant
    c.in_ok-insert.ensures.updates

pub returns : goal.returns
returns c = subst (λ l. ArePlaces c.lets.places (map plain_let l))
    (take_all c.lets.place c.args.lets.now c.lets-test.false) c.lets.invariant.are
