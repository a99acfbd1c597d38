use Rattle.rate_expr.proofs.MaskSets.{has-below}
use Rattle.rate_equal.proofs.twins.lowest_or.Goals as goal

pub returns-else-mask-eq0-clause-below : goal.returns-else-mask-eq0-clause-below
returns-else-mask-eq0-clause-below c = has-below c.args.mask 128 c.lowest.result c.ranges.mask.fits
    c.lowest.ensures.has
