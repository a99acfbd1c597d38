use Rattle.std.proofs.Common.{arith}
use Rattle.rate_expr.proofs.MaskSets.{has-below}
use Rattle.rate_equal.proofs.Freedom.{both_free}
use Rattle.rate_equal.proofs.free.with_free.Goals as goal

pub bounds-free-lowest : goal.bounds-free-lowest
bounds-free-lowest c =
    let below = has-below c.args.mask 128 c.lowest.result c.ranges.mask.fits
    (c.positions.invariant.left c.lowest.result c.lowest.ensures.has) in
    omega (arith, below, c.requires.length)

pub positions-preserved : goal.positions-preserved
positions-preserved c =
    let below = has-below c.args.mask 128 c.lowest.result c.ranges.mask.fits
    (c.positions.invariant.left c.lowest.result c.lowest.ensures.has) in record {
      left = λ position has. c.positions.invariant.left position
          ((c.without_lowest-rest.ensures.exact position).0 has).0;
      free = both_free _ _ _ c.positions.invariant.free
          (c.requires.free c.lowest.result (0, 0) (omega (arith, below, c.requires.length)));
    }
