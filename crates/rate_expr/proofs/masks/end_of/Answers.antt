use Rattle.rate_expr.proofs.MaskSets.{below_end, end_least}
use Rattle.rate_expr.proofs.masks.end_of.Goals as goal

pub returns-clause-above : goal.returns-clause-above
returns-clause-above c = λ position has. below_end c.args.mask position c.ranges.mask.fits has

pub returns-clause-least : goal.returns-clause-least
returns-clause-least c = λ bound below. end_least c.args.mask bound c.ranges.mask.fits below
