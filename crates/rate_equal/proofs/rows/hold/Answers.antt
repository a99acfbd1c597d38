use Rattle.std.proofs.Common.{◌+◌, ◌*◌, ◌/◌, ◌<◌, arith, length, refl}
use Rattle.rate_expr.proofs.MaskSets.{has-below}
use Rattle.rate_equal.specs.PlaceSets.{block_count}
use Rattle.rate_equal.proofs.Holding.{holding_next}
use Rattle.rate_equal.proofs.rows.hold.Goals as goal

pub bounds-rows-lowest : goal.bounds-rows-lowest
bounds-rows-lowest c =
    let below = has-below c.args.mask 128 c.lowest.result c.ranges.mask.fits
    (c.positions.invariant.left c.lowest.result c.lowest.ensures.has) in
    omega arith

pub bounds-rows-lowest-in-positions : goal.bounds-rows-lowest-in-positions
bounds-rows-lowest-in-positions c =
    let below = has-below c.args.mask 128 c.lowest.result c.ranges.mask.fits
    (c.positions.invariant.left c.lowest.result c.lowest.ensures.has) in
    omega arith

pub positions-preserved : goal.positions-preserved
positions-preserved c =
    let below = has-below c.args.mask 128 c.lowest.result c.ranges.mask.fits
    (c.positions.invariant.left c.lowest.result c.lowest.ensures.has) in
    let within : c.lowest.result * block_count + c.args.place / 128 < length c.positions.rows =
    omega arith in
    rw c.only.ensures (holding_next _ _ _ _ _ _ within refl _ _ c.requires.place
    c.positions.invariant c.lowest.ensures c.without_lowest-rest.ensures.exact)
