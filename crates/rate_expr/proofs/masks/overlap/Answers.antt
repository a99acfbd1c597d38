use Rattle.rate_expr.proofs.MaskSets.{overlap_says}
use Rattle.rate_expr.proofs.masks.overlap.Goals as goal

pub returns : goal.returns
returns c = overlap_says c.args.first c.args.second c.ranges.first.fits
