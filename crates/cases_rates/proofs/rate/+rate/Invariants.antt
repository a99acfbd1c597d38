use Rattle.std.proofs.Common.{◌+◌, ◌*◌, max}
use Rattle.query_syntax.specs.declared.rate.Rate.{size-Rate}
use Rattle.cases_rates.proofs.rate.+rate.Given as goal

abbrev pub decreases-rate_over : goal.decreases-rate_over
decreases-rate_over l = 3 * size-Rate l.rate.now

abbrev pub decreases-boxed_over : goal.decreases-boxed_over
decreases-boxed_over l = 3 * size-Rate l.rate.now + 1

abbrev pub decreases-joined_over : goal.decreases-joined_over
decreases-joined_over l = 3 * max (size-Rate l.left.now) (size-Rate l.right.now) + 2

abbrev pub decreases-star_over : goal.decreases-star_over
decreases-star_over l = 3 * size-Rate l.operand.now + 2
