use Rattle.rate_equal.proofs.PlaceSets.{without}
use Rattle.rate_equal.proofs.rows.without.Goals as goal

pub returns : goal.returns
returns c = without c.args.mask c.args.other c.ranges.mask.fits c.ranges.other.fits
