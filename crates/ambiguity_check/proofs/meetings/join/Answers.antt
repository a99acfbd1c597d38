use Rattle.std.proofs.Common.{arith}
use Rattle.ambiguity_check.proofs.Joining.{joined_none, joined_all, joined_next}
use Rattle.ambiguity_check.proofs.meetings.join.Goals as goal

pub places-init : goal.places-init
places-init c = joined_none _ _ _

pub places-preserved : goal.places-preserved
places-preserved c =
    let below = c.requires _ (c.places.invariant.left _ c.lowest.ensures.has) in
    joined_next _ _ _ (omega (arith, c.places.auto.rows)) _ _ _ _ c.lowest.ensures
    c.without_lowest-rest.ensures.exact c.places.invariant

pub returns : goal.returns
returns c = joined_all _ _ _ _ (rw c.places-test.false at c.places.invariant)
