use Rattle.std.proofs.Common.{arith, refl}
use Rattle.rate_expr.proofs.MaskSets.{has-below}
use Rattle.rate_equal.proofs.Sifting.{cutting_next}
use Rattle.rate_equal.proofs.rows.in_all.Goals as goal

pub bounds-rows-lowest : goal.bounds-rows-lowest
bounds-rows-lowest c =
    let below = has-below c.args.mask 128 c.lowest.result c.ranges.mask.fits
    (c.positions.invariant.left c.lowest.result c.lowest.ensures.has) in
    omega arith

pub positions-preserved : goal.positions-preserved
positions-preserved c = cutting_next _ _ _ _ _ _ _ _ _ c.positions.invariant c.lowest.ensures
    c.without_lowest-rest.ensures.exact refl
