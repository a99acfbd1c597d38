use Rattle.rate_expr.proofs.MaskSets.{far_position}
use Rattle.rate_expr.proofs.masks.has.Goals as goal

pub returns-else-position-lt128 : goal.returns-else-position-lt128
returns-else-position-lt128 c =
    far_position c.args.mask c.args.position c.ranges.mask.fits c.if-position-lt128.false
