use Rattle.rate_expr.proofs.Lowest.{is_lowest}
use Rattle.rate_expr.proofs.masks.lowest.Goals as goal

pub returns : goal.returns
returns c = is_lowest c.args.mask c.requires c.ranges.mask.fits
