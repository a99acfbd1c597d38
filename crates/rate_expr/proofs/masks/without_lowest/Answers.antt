use Rattle.rate_expr.proofs.Lowest.{without_lowest}
use Rattle.rate_expr.proofs.masks.without_lowest.Goals as goal

pub returns-clause-exact : goal.returns-clause-exact
returns-clause-exact c = without_lowest c.args.mask c.requires c.ranges.mask.fits
